use Rattle.std.proofs.Common.{◌≡◌, ◌∙◌, ap, sym, true, false, arith, take, length}
use Rattle.std.specs.Prelude.{not, ◌&&◌, ◌==◌}
use Rattle.gl_translate.specs.Macros.{matches_all}
use Rattle.gl_translate.specs.Translation.{meaning}
use Rattle.gl_translate.specs.Steps.{parts_of}
use Rattle.gl_translate.specs.Contexts.{setting_in}
use Rattle.gl_translate.proofs.Clauses.{no_choice, too_early, one_choice, empty_parts}
use Rattle.gl_translate.proofs.context.Context.are_choices.Goals as goal

pub returns-then-matches_too_early : goal.returns-then-matches_too_early
returns-then-matches_too_early c =
    let s = setting_in c.args.self.now in
    let xs = c.args.clauses.now in
    let i = c.loop-i.i in
    let early : (matches_all s c.in-Some.key.now && not (length (parts_of s (take i xs)) == 0)) ≡ true =
    ap (λ b. matches_all s c.in-Some.key.now && not b) (empty_parts s xs i c.loop-i.invariant.within) ∙ (sym c.matches_too_early.ensures ∙ c.if-matches_too_early.true) in
    too_early s xs i c.index-clauses-i.result (omega (arith, c.loop-i-test.true)) c.index-clauses-i.is (c.in-Some.key.now, meaning s c.in-Some.field-0-1.now) (sym (c.in-Some.ensures s)) early

pub returns-in-None : goal.returns-in-None
returns-in-None c =
    let s = setting_in c.args.self.now in
    no_choice s c.args.clauses.now c.loop-i.i c.index-clauses-i.result (omega (arith, c.loop-i-test.true)) c.index-clauses-i.is (sym (c.in-None.ensures s))

pub loop-i-preserved : goal.loop-i-preserved
loop-i-preserved c =
    let s = setting_in c.args.self.now in
    let xs = c.args.clauses.now in
    let i = c.loop-i.i in
    let late : (matches_all s c.in-Some.key.now && not (length (parts_of s (take i xs)) == 0)) ≡ false =
    ap (λ b. matches_all s c.in-Some.key.now && not b) (empty_parts s xs i c.loop-i.invariant.within) ∙ (sym c.matches_too_early.ensures ∙ c.if-matches_too_early.false) in
    record {
      within = omega (arith, c.loop-i-test.true);
      so_far = one_choice s xs i c.index-clauses-i.result (omega (arith, c.loop-i-test.true)) c.index-clauses-i.is (c.in-Some.key.now, meaning s c.in-Some.field-0-1.now) (sym (c.in-Some.ensures s)) late c.loop-i.invariant.so_far;
    }
