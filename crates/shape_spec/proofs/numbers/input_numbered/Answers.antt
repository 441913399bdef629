use Rattle.std.proofs.Common.{◌∙◌, arith}
use Rattle.std.proofs.lemmas.Result.{IfOk-weaker}
use Rattle.gl_logic.specs.Assignments.{value_at}
use Rattle.shape_spec.specs.InputMeant.{assignment_numbered}
use Rattle.shape_spec.proofs.Members.{same_input}
use Rattle.shape_spec.proofs.numbers.input_numbered.Goals as goal

pub returns : goal.returns
returns c =
    let bits = c.set_number.ensures.bits in
    let wide = c.bit_count-width.ensures in
    IfOk-weaker c.input_of.result _ _ (λ s h. h ∙ same_input c.args.b.now (value_at c.set_number.new.a) (assignment_numbered c.args.number) (λ k l. bits k (omega (arith, l, wide)))) c.input_of.ensures
