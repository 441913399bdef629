-- The vector of the variables, one after another.
use Rattle.std.proofs.Common.{◌≡◌, ◌∙◌, ap, sym, refl, subst, ℕ, ◌+◌, ◌<◌, Bool, List, [], ◌∷◌, ◌++◌, length, get_or, arith, inl, inr}
use Rattle.std.proofs.lemmas.List.{length_push, get_or_append_left, get_or_push}
use Rattle.std.proofs.lemmas.List.Elements.{All-push, All-weaker}
use Rattle.std.proofs.lemmas.Bool.{cases_lt}
use Rattle.bfr_store.specs.declared.edge.Edge.{Edge}
use Rattle.bfr_store.specs.Keeps.{Grows}
use Rattle.bdd_store.specs.Nodes.{Diagrams, IsLive, truth_of}
use Rattle.bdd_store.specs.contracts.bits.BddMeaning.TheImpl as diagrams
use Rattle.bdd_param.specs.Kept.{AreVariables}
use Rattle.bdd_param.proofs.Images.{image-at}

pub grows_none : (s : Diagrams) → Grows diagrams.ghosts s s
grows_none s = record { stays = λ e h. h; same = λ e a h. refl; same_limit = refl; same_budget = refl; no_fewer = omega arith }

pub grows_then : (old mid new : Diagrams) → Grows diagrams.ghosts old mid → Grows diagrams.ghosts mid new → Grows diagrams.ghosts old new
grows_then old mid new h k = record {
  stays = λ e l. k.stays e (h.stays e l);
  same = λ e a l. k.same e a (h.stays e l) ∙ h.same e a l;
  same_limit = k.same_limit ∙ h.same_limit;
  same_budget = k.same_budget ∙ h.same_budget;
  no_fewer = omega (arith, h.no_fewer, k.no_fewer);
}

-- one variable more
module _ (old new : Diagrams) (grows : Grows diagrams.ghosts old new) (es : List Edge) (k : ℕ) (v : AreVariables old k es) (x : Edge) (live : IsLive new x) (says : (a : ℕ → Bool) → truth_of new.nodes x a ≡ a k) where
  pub variables_more : (more : List Edge) → more ≡ es ++ x ∷ [] → AreVariables new (k + 1) more
  variables_more more is = subst (AreVariables new (k + 1)) (sym is) (record {
    count = length_push es x ∙ ap (λ n. n + 1) v.count;
    live = All-push (IsLive new) es x (All-weaker (IsLive old) (IsLive new) grows.stays es v.live) live;
    same = λ a j within. elim (cases_lt j k) [
      | inl before ↦
          let inside : j < length es = omega (arith, before, v.count) in
          image-at new.nodes (es ++ x ∷ []) a j x (omega (arith, before, v.count, length_push es x))
          ∙ ap (λ (e : Edge). truth_of new.nodes e a) (get_or_append_left es (x ∷ []) x j inside)
          ∙ grows.same (get_or es j x) a (v.live j x inside)
          ∙ sym (image-at old.nodes es a j x inside)
          ∙ v.same a j before
      | inr last ↦
          let is_last : j ≡ k = omega (arith, within, last) in
          image-at new.nodes (es ++ x ∷ []) a j x (omega (arith, within, v.count, length_push es x))
          ∙ ap (λ (e : Edge). truth_of new.nodes e a) (get_or_push es x x j (v.count ∙ sym is_last))
          ∙ says a ∙ ap a (sym is_last)
    ];
  })
