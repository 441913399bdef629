use Rattle.std.proofs.Common.{◌≡◌, ◌≤◌, map, reverse, drop, length}
use Rattle.gl_translate.specs.Setting.{Setting}
use Rattle.gl_translate.specs.Steps.{means_of, form_means}
use Rattle.gl_translate.proofs.steps.books.Given as goal

-- the forms so far are those from the place on
abbrev pub invariant-loop-left : goal.invariant-loop-left
invariant-loop-left l = record {
  within : l.left ≤ length l.forms;
  so_far : (s : Setting) → map (form_means s) l.all.items ≡ means_of s (drop l.left l.forms);
}

abbrev pub decreases-loop-left : goal.decreases-loop-left
decreases-loop-left l = l.left
