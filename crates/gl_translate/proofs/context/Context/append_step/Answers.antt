use Rattle.std.proofs.Common.{◌∙◌, ap, arith, take, length, ◌-◌, ◌<◌, ◌≤◌}
use Rattle.std.proofs.lemmas.List.{length-take-le}
use Rattle.gl_logic.specs.Object.{nil}
use Rattle.gl_translate.specs.Meaning.{literal, fault}
use Rattle.gl_translate.specs.Macros.{append_call, nested_or}
use Rattle.gl_translate.specs.Translation.{meaning}
use Rattle.gl_translate.specs.Steps.{means_of}
use Rattle.gl_translate.specs.Contexts.{setting_in}
use Rattle.gl_translate.proofs.Forward.{means_last, nested_two, means_length}
use Rattle.gl_translate.proofs.context.Context.append_step.Goals as goal

pub returns-clause-takes : goal.returns-clause-takes
returns-clause-takes c ne =
    let s = setting_in c.args.self.now in
    let xs = c.args.forms.now in
    let a = meaning s c.first-item.result in
    let two : 2 ≤ length xs = omega arith in
    let rest : 0 < length (means_of s (take (length xs - 1) xs)) = omega (arith, two, means_length s (take (length xs - 1) xs), length-take-le (length xs - 1) xs (omega arith)) in
    ap (nested_or (literal nil) (append_call s)) (means_last s xs c.first-item.result (omega (arith, two)) c.first-item.is)
    ∙ nested_two (literal nil) (append_call s) a (means_of s (take (length xs - 1) xs)) (fault c.in-Err.fault) rest (λ x. c.in-Err.ensures.err a x)
