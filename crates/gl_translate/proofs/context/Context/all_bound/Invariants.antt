use Rattle.std.proofs.Common.{◌≡◌, ◌≤◌, ◌++◌, take, length, map}
use Rattle.std.specs.Option.{option_map}
use Rattle.gl_translate.specs.Macros.{all_bound}
use Rattle.gl_translate.specs.Steps.{bindings_of, form_means}
use Rattle.gl_translate.specs.Contexts.{setting_in}
use Rattle.gl_translate.proofs.context.Context.all_bound.Given as goal

-- those so far, in front of those still to come, are those of the whole
abbrev pub invariant-loop-left : goal.invariant-loop-left
invariant-loop-left l = record {
  within : l.left ≤ length l.bindings;
  names_come : option_map (λ bs. l.names ++ map (λ e. e.0) bs) (all_bound (setting_in l.self) (bindings_of (setting_in l.self) (take l.left l.bindings))) ≡ option_map (map (λ e. e.0)) (all_bound (setting_in l.self) (bindings_of (setting_in l.self) l.bindings));
  values_come : option_map (λ bs. map (form_means (setting_in l.self)) l.values.items ++ map (λ e. e.1) bs) (all_bound (setting_in l.self) (bindings_of (setting_in l.self) (take l.left l.bindings))) ≡ option_map (map (λ e. e.1)) (all_bound (setting_in l.self) (bindings_of (setting_in l.self) l.bindings));
}

abbrev pub decreases-loop-left : goal.decreases-loop-left
decreases-loop-left l = l.left
