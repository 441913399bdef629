use Rattle.std.proofs.Common.{◌≡◌, ◌≤◌, length, drop, true}
use Rattle.std.specs.List.{list_all}
use Rattle.shape_spec.specs.Heads.{head_of, is_plain}
use Rattle.shape_spec.proofs.shape_form.Setting.plain_from.Given as goal

abbrev pub invariant-loop-place : goal.invariant-loop-place
invariant-loop-place l = record {
  within : l.place ≤ length l.elements;
  plain : list_all (λ x. is_plain (head_of l.self.texts.now x)) (drop l.place l.elements) ≡ true;
}

abbrev pub decreases-loop-place : goal.decreases-loop-place
decreases-loop-place l = l.place
