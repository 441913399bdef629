-- Vectors and tests in a store that grows, and the vectors that are kept.
use Rattle.std.proofs.Common.{◌≡◌, ◌∙◌, ap, sym, refl, subst, ℕ, ◌<◌, Bool, true, cond, List, [], ◌∷◌, ◌++◌, length, get_or, map, set, arith, inl, inr, length-set, get_or-set_same, get_or-set_other}
use Rattle.std.specs.List.{All}
use Rattle.std.proofs.lemmas.List.{length_push, get_or_append_left, get_or_push}
use Rattle.std.proofs.lemmas.List.Elements.{All-head, All-tail}
use Rattle.std.proofs.lemmas.Bool.{cases_eq}
use Rattle.bfr_store.specs.declared.edge.Edge.{Edge}
use Rattle.bfr_store.specs.Keeps.{Keeps}
use Rattle.bdd_store.specs.Nodes.{Diagrams, IsLive, truth_of}
use Rattle.bdd_store.specs.Tests.{DependsBelow, DependsPast}
use Rattle.bdd_store.specs.contracts.bits.BddMeaning.TheImpl as diagrams
use Rattle.gl_logic.specs.Assignments.{value_at}
use Rattle.bdd_param.specs.Images.{image, IsParametrised}
use Rattle.bdd_param.specs.Kept.{KeptSeen, AreVariables, IsAt, IsKept, Adds}

-- ---- a store that grows
module _ (old new : Diagrams) (keeps : Keeps diagrams.ghosts old new) where
  pub same : (e : Edge) (a : ℕ → Bool) → IsLive old e → truth_of new.nodes e a ≡ truth_of old.nodes e a
  same e a live = keeps.same e a live

  pub depends_past : (e : Edge) (v : ℕ) → IsLive old e → DependsPast old e v → DependsPast new e v
  depends_past e v live d a b h = same e a live ∙ d a b h ∙ sym (same e b live)

  pub depends_below : (e : Edge) (n : ℕ) → IsLive old e → DependsBelow old e n → DependsBelow new e n
  depends_below e n live d a b h = same e a live ∙ d a b h ∙ sym (same e b live)

  pub says_later : (e high low : Edge) (v : ℕ) → IsLive old e → IsLive old high → IsLive old low → ((a : ℕ → Bool) → truth_of old.nodes e a ≡ cond (a v) (truth_of old.nodes high a) (truth_of old.nodes low a))
      → (a : ℕ → Bool) → truth_of new.nodes e a ≡ cond (a v) (truth_of new.nodes high a) (truth_of new.nodes low a)
  says_later e high low v live high_live low_live says a =
      same e a live ∙ says a ∙ (λ i. cond (a v) (sym (same high a high_live) i) (sym (same low a low_live) i))

  truths_same : (es : List Edge) (a : ℕ → Bool) → All (IsLive old) es → map (λ e. truth_of new.nodes e a) es ≡ map (λ e. truth_of old.nodes e a) es
  truths_same [] a live = refl
  truths_same (e ∷ es) a live =
      ap (λ b. b ∷ map (λ x. truth_of new.nodes x a) es) (same e a (All-head (IsLive old) e es live))
      ∙ ap (λ bs. truth_of old.nodes e a ∷ bs) (truths_same es a (All-tail (IsLive old) e es live))

  pub image_same : (es : List Edge) (a : ℕ → Bool) → All (IsLive old) es → image new.nodes es a ≡ image old.nodes es a
  image_same es a live = ap value_at (truths_same es a live)

  pub all_later : (es : List Edge) → All (IsLive old) es → All (IsLive new) es
  all_later es live k d within = keeps.stays (get_or es k d) (live k d within)

  pub parametrised_later : (e : Edge) (width : ℕ) (es : List Edge) → IsLive old e → IsParametrised old e width es → IsParametrised new e width es
  parametrised_later e width es live p = record {
    count = p.count;
    live = all_later es p.live;
    inside = λ a. same e (image new.nodes es a) live ∙ ap (truth_of old.nodes e) (image_same es a p.live) ∙ p.inside a;
    fixed = λ a t k within. ap (λ (b : ℕ → Bool). b k) (image_same es a p.live) ∙ p.fixed a (sym (same e a live) ∙ t) k within;
  }

  at_later : (m : KeptSeen) (e : Edge) (p : ℕ) → IsAt old m e p → IsAt new m e p
  at_later m e p h = record { live = keeps.stays e h.live; within = h.within; vector = parametrised_later e m.width (get_or m.vectors p []) h.live h.vector }

  pub kept_later : (m : KeptSeen) → IsKept old m → IsKept new m
  kept_later m k = record {
    some = k.some;
    variables = record {
      count = k.variables.count;
      live = all_later (get_or m.vectors 0 []) k.variables.live;
      same = λ a j within. ap (λ (b : ℕ → Bool). b j) (image_same (get_or m.vectors 0 []) a k.variables.live) ∙ k.variables.same a j within;
    };
    each = λ n within some. at_later m (record { number = n }) (get_or m.places n 0) (k.each n within some);
  }

-- ---- vectors that are kept
pub adds_none : (m : KeptSeen) → Adds m m
adds_none m = record { width = refl; places = refl; more = λ p h. h; same = λ p h. refl }

pub adds_then : (a b c : KeptSeen) → Adds a b → Adds b c → Adds a c
adds_then a b c h k = record {
  width = k.width ∙ h.width;
  places = k.places ∙ h.places;
  more = λ p l. k.more p (h.more p l);
  same = λ p l. k.same p (h.more p l) ∙ h.same p l;
}

-- a place in more vectors
pub at_more : (s : Diagrams) (m n : KeptSeen) (e : Edge) (p : ℕ) → Adds m n → IsAt s m e p → IsAt s n e p
at_more s m n e p adds h = record {
  live = h.live;
  within = adds.more p h.within;
  vector = subst (λ (w : ℕ). IsParametrised s e w (get_or n.vectors p [])) (sym adds.width) (subst (λ (es : List Edge). IsParametrised s e m.width es) (sym (adds.same p h.within)) h.vector);
}

-- the constant true is parametrised by the variables
pub at_first : (s : Diagrams) (m : KeptSeen) (e : Edge) → IsLive s e → ((a : ℕ → Bool) → truth_of s.nodes e a ≡ true) → IsKept s m → IsAt s m e 0
at_first s m e live always k = record {
  live = live;
  within = k.some;
  vector = record { count = k.variables.count; live = k.variables.live; inside = λ a. always (image s.nodes (get_or m.vectors 0 []) a); fixed = λ a t j within. k.variables.same a j within };
}

-- one vector more
abbrev pub with_one : KeptSeen → Edge → List Edge → KeptSeen
with_one m e v = record m { vectors = m.vectors ++ v ∷ []; places = set m.places e.number (length m.vectors) }

pub adds_one : (m : KeptSeen) (e : Edge) (v : List Edge) → Adds m (with_one m e v)
adds_one m e v = record {
  width = refl;
  places = length-set m.places e.number (length m.vectors);
  more = λ p h. omega (arith, h, length_push m.vectors v);
  same = λ p h. get_or_append_left m.vectors (v ∷ []) [] p h;
}

module _ (s : Diagrams) (m : KeptSeen) (e : Edge) (v : List Edge) (k : IsKept s m) (live : IsLive s e) (place : e.number < length m.places) (vector : IsParametrised s e m.width v) where
  pub at_one : IsAt s (with_one m e v) e (length m.vectors)
  at_one = record {
    live = live;
    within = omega (arith, length_push m.vectors v);
    vector = subst (λ (es : List Edge). IsParametrised s e m.width es) (sym (get_or_push m.vectors v [] (length m.vectors) refl)) vector;
  }

  pub kept_one : IsKept s (with_one m e v)
  kept_one = record {
    some = omega (arith, length_push m.vectors v);
    variables = subst (AreVariables s m.width) (sym (get_or_append_left m.vectors (v ∷ []) [] 0 k.some)) k.variables;
    each = λ n within some. elim (cases_eq n e.number) [
      | inl is ↦ subst (λ (p : ℕ). IsAt s (with_one m e v) (record { number = n }) p) (sym (ap (λ j. get_or (set m.places e.number (length m.vectors)) j 0) is ∙ get_or-set_same m.places e.number (length m.vectors) 0 place)) (subst (λ (j : ℕ). IsAt s (with_one m e v) (record { number = j }) (length m.vectors)) (sym is) at_one)
      | inr other ↦
          let there : get_or (set m.places e.number (length m.vectors)) n 0 ≡ get_or m.places n 0 = get_or-set_other m.places e.number n (length m.vectors) 0 other in
          subst (λ (p : ℕ). IsAt s (with_one m e v) (record { number = n }) p) (sym there) (at_more s m (with_one m e v) (record { number = n }) (get_or m.places n 0) (adds_one m e v) (k.each n (omega (arith, within, length-set m.places e.number (length m.vectors))) (omega (arith, some, there))))
    ];
  }

-- the same place of a store that grows, with more vectors
pub at_same : (old new : Diagrams) → Keeps diagrams.ghosts old new → (m n : KeptSeen) (e : Edge) (p : ℕ) → Adds m n → IsAt old m e p → IsAt new n e p
at_same old new keeps m n e p adds h = at_more new m n e p adds (at_later old new keeps m e p h)
