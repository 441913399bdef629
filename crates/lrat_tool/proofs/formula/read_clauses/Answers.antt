use Rattle.std.proofs.Common.{◌≡◌, ◌≢◌, ◌∙◌, ap, Err, ℕ, to_z-of_z, FitsSigned, w32, rules, sym, subst, arith, length, None, Some, ℤ}
use Rattle.lrat_tool.specs.Flat.{FlatSeen}
use Rattle.lrat_tool.specs.Formulas.{Token, last_line}
use Rattle.lrat_tool.specs.Places.{word_of}
use Rattle.lrat_tool.specs.Reading.{flat_with, literal_here, tokens_left}
use Rattle.lrat_tool.proofs.Formulas.{IsRead, is_formula, is_short, read_more, refused}
use Rattle.lrat_tool.proofs.formula.read_clauses.Goals as goal

pub returns-in_default-literal_at-clause-bad : goal.returns-in_default-literal_at-clause-bad
returns-in_default-literal_at-clause-bad c =
    let text = c.args.text.now in
    let t : Token = record { line = c.next_token.new.at.number; word = word_of text c.in-Some.span } in
    let out : literal_here c.args.header (length c.loop-span.clauses.lists) t ≡ None =
    (λ i. literal_here c.args.header (sym c.len.ensures i) (record { line = c.next_token.new.at.number; word = sym c.word.ensures i })) ∙ sym c.literal_at.ensures ∙ c.in_default-literal_at.is in
    λ all k. refused all (tokens_left text c.loop-span.at) c.args.header c.loop-span.clauses (c.loop-span.invariant.read all k) (last_line text) t (tokens_left text c.next_token.new.at) c.in-Some.ensures.some out

pub loop-span-preserved : goal.loop-span-preserved
loop-span-preserved c =
    let text = c.args.text.now in
    let t : Token = record { line = c.next_token.new.at.number; word = word_of text c.in-Some.span } in
    let z = c.in-Some-literal_at.literal in
    let said : literal_here c.args.header (length c.loop-span.clauses.lists) t ≡ Some z =
    (λ i. literal_here c.args.header (sym c.len.ensures i) (record { line = c.next_token.new.at.number; word = sym c.word.ensures i })) ∙ sym c.literal_at.ensures ∙ c.in-Some-literal_at.is in
    let fits : FitsSigned w32 z = search rules in
    let put_as : c.put.new.clauses ≡ flat_with c.loop-span.clauses z = simp to_z-of_z at c.in-Ok-put.ensures in
    record {
      within = c.next_token.ensures.within;
      read = λ all k. subst (λ (s : FlatSeen ℤ). IsRead all (tokens_left text c.next_token.new.at) c.args.header s) (sym put_as)
          (read_more all (tokens_left text c.loop-span.at) c.args.header c.loop-span.clauses (c.loop-span.invariant.read all k) t (tokens_left text c.next_token.new.at) z c.in-Some.ensures.some c.requires.few said);
    }

pub returns-then-len-header-clause-ok : goal.returns-then-len-header-clause-ok
returns-then-len-header-clause-ok c =
    let text = c.args.text.now in
    let many : length c.loop-span.clauses.lists ≡ c.args.header.clauses = omega (arith, c.len-2.ensures, c.if-len-header.true) in
    λ all k. is_formula all (tokens_left text c.loop-span.at) c.args.header c.loop-span.clauses (c.loop-span.invariant.read all k) (last_line text) c.in_default-next_token.ensures.none many

pub returns-else-len-header-clause-bad : goal.returns-else-len-header-clause-bad
returns-else-len-header-clause-bad c =
    let text = c.args.text.now in
    let other : length c.loop-span.clauses.lists ≢ c.args.header.clauses = λ e. c.if-len-header.false (sym (sym e ∙ sym c.len-2.ensures)) in
    λ all k. is_short all (tokens_left text c.loop-span.at) c.args.header c.loop-span.clauses (c.loop-span.invariant.read all k) (last_line text) c.in_default-next_token.ensures.none other ∙ ap (λ (n : ℕ). Err n) (sym c.last_line.ensures)
