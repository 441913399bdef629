-- Conjuncts that are dealt out.
use Rattle.std.proofs.Common.{◌≡◌, ◌∙◌, ap, sym, refl, subst, ℕ, ◌<◌, Bool, true, false, ◌||◌, eqb, eq-eqb, List, [], ◌∷◌, ◌++◌, length, set, arith, inl, inr}
use Rattle.std.proofs.lemmas.Bool.{eqb-true}
use Rattle.std.proofs.Math.ListN.{length-set}
use Rattle.std.proofs.lemmas.List.{get_or-set_same, get_or-set_other}
use Rattle.gl_logic.specs.Exp.{Exp}
use Rattle.coverage.specs.Parts.{has_part, Among, list_of, Adds, AreParts}
use Rattle.coverage.specs.Places.{is_element}
use Rattle.coverage.proofs.Logic.{never, bool_cases, or_either}
use Rattle.coverage.proofs.Relevance.{among_either, among_left, among_right}

pub adds_nothing : (hit : ℕ → Bool) (t : Exp) (lists : List (List Exp)) → ((j : ℕ) → hit j ≡ false) → Adds hit t lists lists
adds_nothing hit t lists h = record { same_count = refl; kept = λ j u a. a; added = λ j l k. never (sym (h j) ∙ k); only = λ j u a. inl a }

pub adds_both : (P Q : ℕ → Bool) (t : Exp) (a b c : List (List Exp)) → Adds P t a b → Adds Q t b c → Adds (λ j. P j || Q j) t a c
adds_both P Q t a b c f g = record {
  same_count = g.same_count ∙ f.same_count;
  kept = λ j u m. g.kept j u (f.kept j u m);
  added = λ j l h. elim (or_either (P j) (Q j) h) [
    | inl k ↦ g.kept j t (f.added j l k)
    | inr k ↦ g.added j (omega (arith, l, f.same_count)) k
  ];
  only = λ j u m. elim (g.only j u m) [
    | inl k ↦ f.only j u k
    | inr k ↦ inr k
  ];
}

pub adds_fewer : (P Q : ℕ → Bool) (t : Exp) (a b : List (List Exp)) → ((j : ℕ) → Q j ≡ true → P j ≡ true) → Adds P t a b → Adds Q t a b
adds_fewer P Q t a b h f = record { same_count = f.same_count; kept = f.kept; added = λ j l k. f.added j l (h j k); only = f.only }

-- a term put last in one list
module _ (i : ℕ) (t : Exp) (a b : List (List Exp)) (l : i < length a) (e : b ≡ set a i (list_of a i ++ t ∷ [])) where
  at_hit : (j : ℕ) → eqb i j ≡ true → list_of b j ≡ list_of a j ++ t ∷ []
  at_hit j k =
      let q : i ≡ j = eqb-true i j k in
      ap (λ us. list_of us j) e ∙ (ap (list_of (set a i (list_of a i ++ t ∷ []))) (sym q) ∙ (get_or-set_same a i (list_of a i ++ t ∷ []) [] l ∙ ap (λ k. list_of a k ++ t ∷ []) q))

  at_miss : (j : ℕ) → eqb i j ≡ false → list_of b j ≡ list_of a j
  at_miss j k = ap (λ us. list_of us j) e ∙ get_or-set_other a i j (list_of a i ++ t ∷ []) [] (λ q. never (sym k ∙ eq-eqb i j (sym q)))

  pub adds_one : Adds (λ j. eqb i j) t a b
  adds_one = record {
    same_count = ap length e ∙ length-set a i (list_of a i ++ t ∷ []);
    kept = λ j u m. elim (bool_cases (eqb i j)) [
      | inl k ↦ subst (λ us. Among u us) (sym (at_hit j k)) (among_left u (list_of a j) (t ∷ []) m)
      | inr k ↦ subst (λ us. Among u us) (sym (at_miss j k)) m
    ];
    added = λ j h k. subst (λ us. Among t us) (sym (at_hit j k)) (among_right t (list_of a j) (t ∷ []) (inl refl));
    only = λ j u m. elim (bool_cases (eqb i j)) [
      | inl k ↦ elim (among_either u (list_of a j) (t ∷ []) (subst (λ us. Among u us) (at_hit j k) m)) [
        | inl n ↦ inl n
        | inr n ↦ elim n [ inl q ↦ inr q | inr q ↦ absurd q ]
      ]
      | inr k ↦ inl (subst (λ us. Among u us) (at_miss j k) m)
    ];
  }

-- ---- one conjunct after another
pub no_parts : (n : ℕ) (S : Exp → Bool) (lists : List (List Exp)) → length lists ≡ n → ((j : ℕ) → list_of lists j ≡ []) → AreParts n S [] lists
no_parts n S lists h k = record { count = h; kept = λ j l t a. absurd a; of_said = λ j t a. subst (λ us. Among t us) (k j) a }

pub one_dealt : (n : ℕ) (S : Exp → Bool) (said : List Exp) (t : Exp) (lists new : List (List Exp)) → AreParts n S said lists → Adds (λ j. has_part (is_element n S j) t) t lists new → AreParts n S (said ++ t ∷ []) new
one_dealt n S said t lists new p f = record {
  count = f.same_count ∙ p.count;
  kept = λ j l u a h. elim (among_either u said (t ∷ []) a) [
    | inl k ↦ f.kept j u (p.kept j l u k h)
    | inr k ↦ elim k [
      | inl e ↦ subst (λ v. Among v (list_of new j)) (sym e) (f.added j (omega (arith, l, p.count)) (ap (has_part (is_element n S j)) (sym e) ∙ h))
      | inr e ↦ absurd e
    ]
  ];
  of_said = λ j u a. elim (f.only j u a) [
    | inl k ↦ among_left u said (t ∷ []) (p.of_said j u k)
    | inr k ↦ among_right u said (t ∷ []) (inl k)
  ];
}
