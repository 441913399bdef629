-- A new name goes last.
use Rattle.std.proofs.Common.{◌≡◌, ◌∙◌, ap, sym, refl, ℕ, suc, Bool, true, false, cond, eqb, List, [], ◌∷◌, ◌++◌, Option, Some, None}
use Rattle.std.specs.Option.{option_map}
use Rattle.gl_logic.specs.Named.{IsFree, place_of}
use Rattle.gl_logic.proofs.Indexes.{place-cons}
use Rattle.indexmap.specs.IndexMap.{insert_entry}
use Rattle.gl_translate.specs.Meaning.{function_names}

free_rest : (o : Option ℕ) → option_map suc o ≡ None → o ≡ None
free_rest None e = refl
free_rest (Some n) e = absurd cc

pub insert_new : (es : List (ℕ × ℕ)) (name formals : ℕ) → IsFree (function_names es) name → insert_entry eqb es name formals ≡ es ++ (name, formals) ∷ []
insert_new [] name formals h = refl
insert_new (e ∷ es) name formals h =
    elim (eqb name e.0) as (λ b. cond b (Some 0) (option_map suc (place_of (function_names es) name)) ≡ None → cond b ((e.0, formals) ∷ es) (e ∷ insert_entry eqb es name formals) ≡ e ∷ es ++ (name, formals) ∷ []) [
      | true ↦ λ q. absurd cc
      | false ↦ λ q. ap (λ xs. e ∷ xs) (insert_new es name formals (free_rest (place_of (function_names es) name) q))
    ] (sym (place-cons e.0 (function_names es) name) ∙ h)
