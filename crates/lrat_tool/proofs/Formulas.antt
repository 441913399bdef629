-- The clauses of a formula, one token after another.
use Rattle.std.proofs.Common.{◌≡◌, ◌≢◌, ◌∙◌, ap, sym, refl, ℕ, ℤ, ◌+◌, ◌<◌, ◌≤◌, Bool, true, false, cond, List, [], ◌∷◌, ◌++◌, ◌⊎◌, inl, inr, map, length, arith, Ok, Err, Option, Some, None}
use Rattle.std.specs.Prelude.{◌&&◌, ◌==◌, not, nat_lt, is_some, bytes_eq, codes}
use Rattle.std.proofs.lemmas.List.{append-nil, append_assoc, map-append, length_push}
use Rattle.std.proofs.lemmas.Bool.{eq-eqb, ltb-true}
use Rattle.std.proofs.lemmas.List.Sums.{sum_by_push}
use Rattle.gl_logic.proofs.Optional.{none_some}
use Rattle.std.proofs.lemmas.Bool.Decides.{nat_tests}
use Rattle.lrat_tool.specs.Flat.{FlatSeen}
use Rattle.lrat_tool.specs.Words.{with_first}
use Rattle.lrat_tool.specs.Numbers.{integer_within, is_zero}
use Rattle.lrat_tool.specs.Formulas.{Token, by_misplaced, clauses_behind, clauses_said, first_misplaced, integer_or_zero, is_whole, literal_said, may_follow, most_variables, split_clauses, variables_said, zeros}
use Rattle.lrat_tool.specs.Reading.{HasHeader, flat_with, formula_by, literal_here}
use Rattle.lrat_tool.specs.declared.formula.Header.{Header}
use Rattle.lrat_tool.proofs.Numbers.{integer_wider, zero_word}
use Rattle.lrat_tool.proofs.Tokens.{passed, stopped}

-- these literals before those of the first clause
abbrev pub with_front : List ℤ → List (List ℤ) → List (List ℤ)
with_front [] cs = cs
with_front (z ∷ zs) cs = with_first z (with_front zs cs)

front_ended : (zs : List ℤ) (cs : List (List ℤ)) → with_front zs ([] ∷ cs) ≡ zs ∷ cs
front_ended [] cs = refl
front_ended (z ∷ zs) cs = ap (with_first z) (front_ended zs cs)

front_more : (zs : List ℤ) (z : ℤ) (cs : List (List ℤ)) → with_front zs (with_first z cs) ≡ with_front (zs ++ z ∷ []) cs
front_more [] z cs = refl
front_more (y ∷ zs) z cs = ap (with_first y) (front_more zs z cs)

-- what was read behind a header, and what is left
pub record IsRead (all left : List Token) (h : Header) (seen : FlatSeen ℤ) : Type 0 where
  pub p : Token
  pub f : Token
  pub v : Token
  pub c : Token
  pub before : List Token
  pub split : all ≡ p ∷ f ∷ v ∷ c ∷ (before ++ left)
  pub reached : first_misplaced [] all ≡ first_misplaced (p ∷ f ∷ v ∷ c ∷ before) left
  pub line : p.line ≡ h.line
  pub variables : variables_said v ≡ h.variables
  pub clauses : clauses_said c ≡ h.clauses
  pub ended : zeros before ≡ length seen.lists
  pub literals : (more : List ℤ) → split_clauses (map literal_said before ++ more) ≡ seen.lists ++ with_front seen.rest (split_clauses more)
  pub room : (seen.rest ≡ []) ⊎ (length seen.lists < h.clauses)

pub first_read : (all left : List Token) (h : Header) → HasHeader all left h → IsRead all left h (record { lists = []; rest = [] })
first_read all left h k = record {
  p = k.p;
  f = k.f;
  v = k.v;
  c = k.c;
  before = [];
  split = k.split;
  reached = k.reached;
  line = k.line;
  variables = k.variables;
  clauses = k.clauses;
  ended = refl;
  literals = λ more. refl;
  room = inl refl;
}

-- whether a token may stand there, by what is known of those before it
abbrev pub fits : Header → ℕ → Token → Bool
fits h ended t = not (t.line == h.line) && (nat_lt ended h.clauses && is_some (integer_within h.variables t.word))

here_by : (a b : Bool) (o : Option ℤ) → cond (a && b) o None ≡ None → (a && (b && is_some o)) ≡ false
here_by true true None e = refl
here_by true true (Some z) e = none_some _ (sym e)
here_by true false o e = refl
here_by false b o e = refl

some_by : (a b : Bool) (o : Option ℤ) (z : ℤ) → cond (a && b) o None ≡ Some z → ((a && (b && is_some o)) ≡ true) × (o ≡ Some z) × (b ≡ true)
some_by true true None z e = none_some _ e
some_by true true (Some y) z e = (refl, e, refl)
some_by true false o z e = none_some _ e
some_by false b o z e = none_some _ e

pub refused_here : (h : Header) (ended : ℕ) (t : Token) → literal_here h ended t ≡ None → fits h ended t ≡ false
refused_here h ended t = here_by (not (t.line == h.line)) (nat_lt ended h.clauses) (integer_within h.variables t.word)

pub taken_here : (h : Header) (ended : ℕ) (t : Token) (z : ℤ) → literal_here h ended t ≡ Some z → (fits h ended t ≡ true) × (integer_within h.variables t.word ≡ Some z) × (nat_lt ended h.clauses ≡ true)
taken_here h ended t z = some_by (not (t.line == h.line)) (nat_lt ended h.clauses) (integer_within h.variables t.word) z

zeros_push : (ts : List Token) (t : Token) → zeros (ts ++ t ∷ []) ≡ zeros ts + cond (bytes_eq t.word (codes "0")) 1 0
zeros_push ts t = sum_by_push (λ (u : Token). cond (bytes_eq u.word (codes "0")) 1 0) ts t

said_is : (h : Header) (t : Token) (z : ℤ) → h.variables ≤ most_variables → integer_within h.variables t.word ≡ Some z → literal_said t ≡ z
said_is h t z le e = ap integer_or_zero (integer_wider h.variables most_variables t.word z le e)

module _ (all left : List Token) (h : Header) (seen : FlatSeen ℤ) (k : IsRead all left h seen) where
  abbrev known : List Token
  known = k.p ∷ k.f ∷ k.v ∷ k.c ∷ k.before

  same_test : (t : Token) → may_follow known t ≡ fits h (length seen.lists) t
  same_test t = λ i. not (t.line == k.line i) && (nat_lt (k.ended i) (k.clauses i) && is_some (integer_within (k.variables i) t.word))

  pub refused : (last : ℕ) (t : Token) (ts : List Token) → left ≡ t ∷ ts → literal_here h (length seen.lists) t ≡ None → formula_by last all ≡ Err t.line
  refused last t ts e out =
      stopped last all known (t ∷ ts) t.line (k.reached ∙ ap (first_misplaced known) e) (same_test t ∙ refused_here h (length seen.lists) t out, refl) (λ bad. absurd (omega (arith, ap (λ (l : List Token). length l) bad)))

  -- the literals with one more
  more_literals : (t : Token) (z : ℤ) → literal_said t ≡ z → (more : List ℤ) → split_clauses (map literal_said (k.before ++ t ∷ []) ++ more) ≡ seen.lists ++ with_front seen.rest (split_clauses (z ∷ more))
  more_literals t z is more =
      ap (λ (zs : List ℤ). split_clauses (zs ++ more)) (map-append literal_said k.before (t ∷ []))
      ∙ ap split_clauses (append_assoc (map literal_said k.before) (literal_said t ∷ []) more)
      ∙ ap (λ y. split_clauses (map literal_said k.before ++ y ∷ more)) is
      ∙ k.literals (z ∷ more)

  ended_by : (t : Token) (z : ℤ) → integer_within h.variables t.word ≡ Some z → zeros (k.before ++ t ∷ []) ≡ length seen.lists + cond (is_zero z) 1 0
  ended_by t z e = zeros_push k.before t ∙ (λ i. k.ended i + cond (sym (zero_word h.variables t.word z e) i) 1 0)

  split_as : (z : ℤ) (more : List ℤ) (b : Bool) → is_zero z ≡ b → split_clauses (z ∷ more) ≡ cond b ([] ∷ split_clauses more) (with_first z (split_clauses more))
  split_as z more b e = ap (λ c. cond c ([] ∷ split_clauses more) (with_first z (split_clauses more))) e

  module _ (t : Token) (ts : List Token) (z : ℤ) (e : left ≡ t ∷ ts) (le : h.variables ≤ most_variables) (said : literal_here h (length seen.lists) t ≡ Some z) where
    taken : (fits h (length seen.lists) t ≡ true) × (integer_within h.variables t.word ≡ Some z) × (nat_lt (length seen.lists) h.clauses ≡ true)
    taken = taken_here h (length seen.lists) t z said

    split_more : all ≡ k.p ∷ k.f ∷ k.v ∷ k.c ∷ ((k.before ++ t ∷ []) ++ ts)
    split_more = k.split ∙ (λ i. k.p ∷ k.f ∷ k.v ∷ k.c ∷ ((ap (λ (l : List Token). k.before ++ l) e ∙ sym (append_assoc k.before (t ∷ []) ts)) i))

    reached_more : first_misplaced [] all ≡ first_misplaced (k.p ∷ k.f ∷ k.v ∷ k.c ∷ (k.before ++ t ∷ [])) ts
    reached_more = k.reached ∙ ap (first_misplaced known) e ∙ passed known t ts (same_test t ∙ taken.0)

    pub read_by : (b : Bool) → is_zero z ≡ b → IsRead all ts h (cond b (record { lists = seen.lists ++ seen.rest ∷ []; rest = [] }) (record { lists = seen.lists; rest = seen.rest ++ z ∷ [] }))
    read_by true is = record {
      p = k.p;
      f = k.f;
      v = k.v;
      c = k.c;
      before = k.before ++ t ∷ [];
      split = split_more;
      reached = reached_more;
      line = k.line;
      variables = k.variables;
      clauses = k.clauses;
      ended = ended_by t z taken.1 ∙ ap (λ b. length seen.lists + cond b 1 0) is ∙ sym (length_push seen.lists seen.rest);
      literals = λ more. more_literals t z (said_is h t z le taken.1) more ∙ ap (λ (cs : List (List ℤ)). seen.lists ++ with_front seen.rest cs) (split_as z more true is)
          ∙ ap (λ (cs : List (List ℤ)). seen.lists ++ cs) (front_ended seen.rest (split_clauses more)) ∙ sym (append_assoc seen.lists (seen.rest ∷ []) (split_clauses more));
      room = inl refl;
    }
    read_by false is = record {
      p = k.p;
      f = k.f;
      v = k.v;
      c = k.c;
      before = k.before ++ t ∷ [];
      split = split_more;
      reached = reached_more;
      line = k.line;
      variables = k.variables;
      clauses = k.clauses;
      ended = ended_by t z taken.1 ∙ ap (λ b. length seen.lists + cond b 1 0) is ∙ omega arith;
      literals = λ more. more_literals t z (said_is h t z le taken.1) more ∙ ap (λ (cs : List (List ℤ)). seen.lists ++ with_front seen.rest cs) (split_as z more false is)
          ∙ ap (λ (cs : List (List ℤ)). seen.lists ++ cs) (front_more seen.rest z (split_clauses more));
      room = inr (below (length seen.lists) h.clauses taken.2);
    }
      where
        below : (a b : ℕ) → nat_lt a b ≡ true → a < b
        below a b h = ltb-true a b h

    pub read_more : IsRead all ts h (flat_with seen z)
    read_more = read_by (is_zero z) refl

  -- all is read
  module _ (last : ℕ) (none : left ≡ []) where
    all_known : all ≡ k.p ∷ k.f ∷ k.v ∷ k.c ∷ k.before
    all_known = k.split ∙ (λ i. k.p ∷ k.f ∷ k.v ∷ k.c ∷ ((ap (λ (l : List Token). k.before ++ l) none ∙ append-nil k.before) i))

    none_misplaced : first_misplaced [] all ≡ None
    none_misplaced = k.reached ∙ ap (first_misplaced known) none

    whole : is_whole all ≡ (length seen.lists == h.clauses)
    whole = ap is_whole all_known ∙ (λ i. k.ended i == k.clauses i)

    no_rest : (seen.rest ≡ []) ⊎ (length seen.lists < h.clauses) → length seen.lists ≡ h.clauses → seen.rest ≡ []
    no_rest (inl e) is = e
    no_rest (inr l) is = absurd (omega (arith, l, is))

    behind : length seen.lists ≡ h.clauses → clauses_behind all ≡ seen.lists
    behind is =
        ap clauses_behind all_known ∙ ap split_clauses (sym (append-nil (map literal_said k.before))) ∙ k.literals []
        ∙ ap (λ (r : List ℤ). seen.lists ++ with_front r []) (no_rest k.room is) ∙ append-nil seen.lists

    formula_as : (b : Bool) → is_whole all ≡ b → formula_by last all ≡ cond b (Ok (clauses_behind all)) (Err last)
    formula_as b e = ap (λ m. by_misplaced m (cond (is_whole all) (Ok (clauses_behind all)) (Err last))) none_misplaced ∙ ap (λ c. cond c (Ok (clauses_behind all)) (Err last)) e

    pub is_formula : length seen.lists ≡ h.clauses → formula_by last all ≡ Ok seen.lists
    is_formula is = formula_as true (whole ∙ eq-eqb (length seen.lists) h.clauses is) ∙ ap (λ cs. Ok cs) (behind is)

    pub is_short : length seen.lists ≢ h.clauses → formula_by last all ≡ Err last
    is_short other = formula_as false (whole ∙ apart (length seen.lists) h.clauses other)
      where
        apart : (a b : ℕ) → a ≢ b → (a == b) ≡ false
        apart a b h = grind (arith, nat_tests)
