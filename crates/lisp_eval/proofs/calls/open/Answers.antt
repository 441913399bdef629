use Rattle.std.proofs.Common.{◌∙◌, ap, sym, refl, [], ◌++◌}
use Rattle.gl_logic.specs.DefinitionOf.{definition_of}
use Rattle.gl_logic.proofs.Optional.{some_same}
use Rattle.lisp_eval.specs.Bindings.{bindings_of}
use Rattle.lisp_eval.specs.Kept.{kept_frame}
use Rattle.lisp_eval.specs.States.{frames_of}
use Rattle.lisp_eval.proofs.Environments.{opened_next, frames_push, append_none}
use Rattle.lisp_eval.proofs.calls.open.Goals as goal

pub returns-in-None : goal.returns-in-None
returns-in-None c =
    let found = definition_of c.def-def.result.now in
    record {
      next = λ objects d e. opened_next objects found d c.args.args.items c.in_ok-env.env.value.items c.args.keep _ c.args.frames.now.items c.args.frames.now.items
          (some_same found d (sym c.def-def.ensures.found ∙ e)) (ap (λ v. v.items) c.in_ok-env.ensures.ok ∙ (c.in_ok-bind.ensures ∙ ap (λ xs. bindings_of found.formals xs ++ []) c.as_slice.ensures)) refl
          (sym (append_none (frames_of objects c.args.frames.now.items)) ∙ ap (λ k. frames_of objects c.args.frames.now.items ++ kept_frame objects k) (sym c.in-None.is));
    }

pub returns : goal.returns
returns c =
    let found = definition_of c.def-def.result.now in
    record {
      next = λ objects d e. opened_next objects found d c.args.args.items c.in_ok-env.env.value.items c.args.keep _ c.args.frames.now.items c.push.new.self.items
          (some_same found d (sym c.def-def.ensures.found ∙ e)) (ap (λ v. v.items) c.in_ok-env.ensures.ok ∙ (c.in_ok-bind.ensures ∙ ap (λ xs. bindings_of found.formals xs ++ []) c.as_slice.ensures)) refl
          (frames_push objects c.args.frames.now.items c.push.new.self.items _ c.in_ok-push-in-Some.ensures.items ∙ ap (λ k. frames_of objects c.args.frames.now.items ++ kept_frame objects k) (sym c.in-Some.is));
    }
