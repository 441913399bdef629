use Rattle.std.proofs.Common.{◌≡◌, ◌<◌, ◌∙◌, ap, subst, refl, arith, ℕ, List, length, Option, true}
use Rattle.std.specs.Prelude.{nat_lt}
use Rattle.std.proofs.lemmas.Bool.Decides.{nat_tests}
use Rattle.lrat_tool.specs.Long.{IsLongText}
use Rattle.lrat_tool.specs.declared.judgement.Judgement.TheVariants.{BadCnf}
use Rattle.lrat_tool.specs.declared.read.TextEnd.TheVariants.{TooLong}
use Rattle.gl.specs.Judging.{IsSaid, most_text, line_behind, said_of}
use Rattle.gl.proofs.TextsTold.{some_text, told_so}
use Rattle.gl.proofs.judging.said_of.Goals as goal

-- a formula that is too long is said to be so, whatever the log is
long_cnf : (cnf log : List ℕ) → most_text < length cnf → BadCnf (line_behind cnf) ≡ said_of cnf log
long_cnf cnf log h = let e : nat_lt most_text (length cnf) ≡ true = grind (arith, nat_tests) in rw e refl

module _ (holds : List ℕ → Option (List ℕ)) (cnf_name log_name : List ℕ) where
  of_long_cnf : (line : ℕ) → IsLongText most_text (holds cnf_name) (TooLong line) → IsSaid holds cnf_name log_name (BadCnf line)
  of_long_cnf line h = record {
    cnf = h.0;
    log = some_text (holds log_name);
    cnf_told = h.1;
    log_told = told_so (holds log_name);
    is = ap BadCnf h.3 ∙ long_cnf h.0 (some_text (holds log_name)) h.2;
  }

pub returns-in-Err-TooLong-clause-said : goal.returns-in-Err-TooLong-clause-said
returns-in-Err-TooLong-clause-said g c =
    let long : IsLongText most_text (g.S.Shelf.holds c.args.shelf.now c.args.pair.now.cnf.now) (TooLong c.in-Err-TooLong.line) = subst (IsLongText most_text (g.S.Shelf.holds c.args.shelf.now c.args.pair.now.cnf.now)) c.in-Err-TooLong.field-0-is c.in-Err-TooLong.ensures.long in
    rw c.in-Err-TooLong.field-0-is (of_long_cnf (g.S.Shelf.holds c.args.shelf.now) c.args.pair.now.cnf.now c.args.pair.now.log.now c.in-Err-TooLong.line long)
