use Rattle.std.proofs.Common.{◌∙◌, ap, refl, ◌++◌}
use Rattle.lisp_eval.specs.Bindings.{bindings_of}
use Rattle.gl_logic.specs.TermOf.{term_of}
use Rattle.lisp_eval.specs.declared.frame.Focus.TheVariants as focus
use Rattle.lisp_eval.proofs.Environments.{bound_next}
use Rattle.lisp_eval.proofs.calls.bound.Goals as goal

pub returns : goal.returns
returns c = record {
  next = λ objects frames. bound_next objects c.args.names.now c.args.values.items c.args.outer.value.items c.in_ok-env.env.value.items (term_of c.args.body.now) (focus.Visit c.args.body c.in_ok-env.env) frames
      (ap (λ v. v.items) c.in_ok-env.ensures.ok ∙ (c.in_ok-bind.ensures ∙ (λ j. bindings_of c.args.names.now (c.as_slice.ensures j) ++ (c.as_slice-2.ensures.value ∙ ap (λ v. v.items) c.as_ref.ensures) j))) refl;
}
