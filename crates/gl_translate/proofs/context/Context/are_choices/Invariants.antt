use Rattle.std.proofs.Common.{◌≡◌, ◌≤◌, take, length, true}
use Rattle.std.specs.Option.{is_some}
use Rattle.gl_translate.specs.Macros.{choices_of}
use Rattle.gl_translate.specs.Steps.{parts_of}
use Rattle.gl_translate.specs.Contexts.{setting_in}
use Rattle.gl_translate.proofs.context.Context.are_choices.Given as goal

abbrev pub invariant-loop-i : goal.invariant-loop-i
invariant-loop-i l = record {
  within : l.i ≤ length l.clauses;
  so_far : is_some (choices_of (setting_in l.self) (parts_of (setting_in l.self) (take l.i l.clauses))) ≡ true;
}
