-- The places of names in two lists of functions, one behind the other.
use Rattle.std.proofs.Common.{◌≡◌, ◌∙◌, ap, sym, refl, ℕ, suc, ◌+◌, Bool, true, false, cond, eqb, List, [], ◌∷◌, ◌++◌, length, arith, Option, Some, None}
use Rattle.std.specs.Option.{option_map}
use Rattle.gl_logic.specs.Named.{place_of}
use Rattle.gl_translate.specs.Meaning.{function_names}

-- the place in the first list, or else behind it in the second
abbrev pub place_after : ℕ → Option ℕ → Option ℕ → Option ℕ
place_after count (Some f) own = Some f
place_after count None own = option_map (λ i. count + i) own

pub place_cons : (n : ℕ) (ns : List ℕ) (name : ℕ) → place_of (n ∷ ns) name ≡ cond (eqb name n) (Some 0) (option_map suc (place_of ns name))
place_cons n ns name = grind arith

after_zero : (o : Option ℕ) → option_map (λ i. 0 + i) o ≡ o
after_zero None = refl
after_zero (Some i) = ap Some (omega arith)

after_more : (n : ℕ) (b : Bool) (o p : Option ℕ) → place_after (suc n) (cond b (Some 0) (option_map suc o)) p ≡ cond b (Some 0) (option_map suc (place_after n o p))
after_more n true o p = refl
after_more n false None None = refl
after_more n false None (Some i) = ap Some (omega arith)
after_more n false (Some f) p = refl

pub together : (fs gs : List (ℕ × ℕ)) (t : ℕ) → place_after (length fs) (place_of (function_names fs) t) (place_of (function_names gs) t) ≡ place_of (function_names (fs ++ gs)) t
together [] gs t = after_zero (place_of (function_names gs) t)
together (f ∷ fs) gs t =
    ap (λ o. place_after (suc (length fs)) o (place_of (function_names gs) t)) (place_cons f.0 (function_names fs) t)
    ∙ (after_more (length fs) (eqb t f.0) (place_of (function_names fs) t) (place_of (function_names gs) t)
    ∙ (ap (λ o. cond (eqb t f.0) (Some 0) (option_map suc o)) (together fs gs t) ∙ sym (place_cons f.0 (function_names (fs ++ gs)) t)))
