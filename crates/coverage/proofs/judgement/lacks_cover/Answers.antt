use Rattle.std.proofs.Common.{map}
use Rattle.gl_logic.specs.TermOf.{term_of}
use Rattle.gl_logic.specs.FreeVariables.{is_free_in}
use Rattle.shape_spec.specs.ShapeOf.{shape_of}
use Rattle.coverage.specs.Conjuncts.{conjuncts}
use Rattle.coverage.specs.Subjects.{is_variable}
use Rattle.coverage.specs.Covered.{is_free_in_either, is_covered}
use Rattle.coverage.proofs.Rest.{lacks_none, lacks_first, lacks_second, covered_by}
use Rattle.coverage.proofs.judgement.lacks_cover.Goals as goal

pub returns-then-branch : goal.returns-then-branch
returns-then-branch c =
    lacks_none (is_free_in_either (term_of c.args.hyp.now) (term_of c.args.concl.now) c.args.variable.number) (is_covered (conjuncts (term_of c.args.hyp.now)) (is_variable c.args.variable.number) (shape_of c.args.shape.now)) c.in_ok-is_covered.field-0
    (covered_by (map (λ t. term_of t.now) c.args.said.now) (conjuncts (term_of c.args.hyp.now)) (is_variable c.args.variable.number) (shape_of c.args.shape.now) c.in_ok-is_covered.field-0 c.requires c.in_ok-is_covered.ensures) c.if-branch.true

pub returns-then-is_free : goal.returns-then-is_free
returns-then-is_free c =
    lacks_first (is_free_in (term_of c.args.hyp.now) c.args.variable.number) (is_free_in (term_of c.args.concl.now) c.args.variable.number) (is_covered (conjuncts (term_of c.args.hyp.now)) (is_variable c.args.variable.number) (shape_of c.args.shape.now)) c.in_ok-is_covered.field-0 c.is_free.result
    (covered_by (map (λ t. term_of t.now) c.args.said.now) (conjuncts (term_of c.args.hyp.now)) (is_variable c.args.variable.number) (shape_of c.args.shape.now) c.in_ok-is_covered.field-0 c.requires c.in_ok-is_covered.ensures) c.if-branch.false c.is_free.ensures c.if-is_free.true

pub returns-else-is_free : goal.returns-else-is_free
returns-else-is_free c =
    lacks_second (is_free_in (term_of c.args.hyp.now) c.args.variable.number) (is_free_in (term_of c.args.concl.now) c.args.variable.number) (is_covered (conjuncts (term_of c.args.hyp.now)) (is_variable c.args.variable.number) (shape_of c.args.shape.now)) c.in_ok-is_covered.field-0 c.is_free.result c.is_free-else-is_free.result
    (covered_by (map (λ t. term_of t.now) c.args.said.now) (conjuncts (term_of c.args.hyp.now)) (is_variable c.args.variable.number) (shape_of c.args.shape.now) c.in_ok-is_covered.field-0 c.requires c.in_ok-is_covered.ensures) c.if-branch.false c.is_free.ensures c.if-is_free.false c.is_free-else-is_free.ensures
