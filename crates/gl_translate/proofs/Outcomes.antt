-- Outcomes one after the other.
use Rattle.std.proofs.Common.{◌≡◌, ◌∙◌, ap, sym, refl, subst, ℕ, suc, ◌+◌, ◌<◌, ◌≤◌, Bool, ◌||◌, eqb, List, [], ◌∷◌, ◌++◌, map, drop, get_or, length, arith, append_assoc, append-nil}
use Rattle.std.specs.Prelude.{Result, Ok, Err, ◌≢◌}
use Rattle.std.specs.List.{list_any}
use Rattle.std.proofs.lemmas.List.{drop_more, drop_all}
use Rattle.gl_logic.specs.Exp.{Exp, If, Let}
use Rattle.gl_logic.specs.TermOf.{exps_of}
use Rattle.gl_translate.specs.declared.fault.TermFault.{TermFault}
use Rattle.gl_translate.specs.declared.form.Form.{Form}
use Rattle.gl_translate.specs.declared.form.Step.{Step}
use Rattle.gl_translate.specs.Setting.{Setting}
use Rattle.gl_translate.specs.Meaning.{Meaning, Outcome, and_then, fault, every_part, if_parts, let_inside, also_bound}
use Rattle.gl_translate.specs.Translation.{are_in}
use Rattle.gl_translate.specs.Steps.{IsBelow, form_means, step_means, step_inside}
use Rattle.gl_translate.specs.Answers.{Gives}
use Rattle.gl_translate.proofs.Deep.{near, step_near}

pub gives_at : {A B : Type 0} (value_of : A → B) (o p : Outcome B) (r : Result A TermFault) → o ≡ p → Gives value_of o r → Gives value_of p r
gives_at value_of o p r e h = subst (λ (x : Outcome _). Gives value_of x r) e h

pub at_fault : (m : Meaning) (e : TermFault) (bound : ℕ → Bool) (around : ℕ) → around < 2000 → m ≡ fault e → m bound around ≡ Err e
at_fault m e bound around l h = ap (λ (n : Meaning). n bound around) h ∙ near (λ v n. Err e) bound around l

pub at_step : (s : Setting) (m : Meaning) (st : Step) (v w : List ℕ) (around : ℕ) → around < 2000 → m ≡ step_means s st → IsBelow 0 st → w ≡ v → step_inside s st (are_in w) (around + 1) ≡ m (are_in v) around
at_step s m st v w around l h b e =
    let one : around + 1 ≡ suc around = omega arith in
    ap (λ (u : List ℕ). step_inside s st (are_in u) (around + 1)) e
    ∙ (ap (step_inside s st (are_in v)) one
    ∙ (sym (step_near s st (are_in v) around b l)
    ∙ ap (λ (n : Meaning). n (are_in v) around) (sym h)))

-- ---- `if`, where what is bound stays from part to part
module _ (a b c : Meaning) (v v1 v2 : List ℕ) (n : ℕ) where
  abbrev last_part : Exp → Exp → Outcome Exp
  last_part x y = and_then (c (are_in v) n) (λ z. Ok (If x y z))

  abbrev last_parts : Exp → Outcome Exp
  last_parts x = and_then (b (are_in v) n) (last_part x)

  pub if_first : (f : TermFault) → a (are_in v) n ≡ Err f → if_parts a b c (are_in v) n ≡ Err f
  if_first f h = ap (λ o. and_then o last_parts) h

  pub if_second : (x : Exp) (o : Outcome Exp) → a (are_in v) n ≡ Ok x → v1 ≡ v → b (are_in v1) n ≡ o → if_parts a b c (are_in v) n ≡ and_then o (last_part x)
  if_second x o h e k = ap (λ o. and_then o last_parts) h ∙ ap (λ o. and_then o (last_part x)) (ap (λ (w : List ℕ). b (are_in w) n) (sym e) ∙ k)

  pub if_third : (x y : Exp) (o : Outcome Exp) → a (are_in v) n ≡ Ok x → v1 ≡ v → b (are_in v1) n ≡ Ok y → v2 ≡ v1 → c (are_in v2) n ≡ o → if_parts a b c (are_in v) n ≡ and_then o (λ z. Ok (If x y z))
  if_third x y o h e k f m = if_second x (Ok y) h e k ∙ ap (λ o. and_then o (λ z. Ok (If x y z))) (ap (λ (w : List ℕ). c (are_in w) n) (sym (f ∙ e)) ∙ m)

-- ---- parts in a row: those that are done, and those still to come
abbrev pub to_come : List Exp → Outcome (List Exp) → Outcome (List Exp)
to_come done o = and_then o (λ ts. Ok (done ++ ts))

done_first : (done : List Exp) (x : Exp) (o : Outcome (List Exp)) → to_come done (and_then o (λ ts. Ok (x ∷ ts))) ≡ to_come (done ++ x ∷ []) o
done_first done x (Ok ts) = ap Ok (sym (append_assoc done (x ∷ []) ts))
done_first done x (Err f) = refl

module _ (s : Setting) (fs : List Form) (i : ℕ) (f : Form) (bound : ℕ → Bool) (n : ℕ) (done : List Exp) (inside : i < length fs) (at : f ≡ get_or fs i f) where
  abbrev others : Outcome (List Exp)
  others = every_part (map (form_means s) (drop (i + 1) fs)) bound n

  ahead : every_part (map (form_means s) (drop i fs)) bound n ≡ and_then (form_means s f bound n) (λ t. and_then others (λ ts. Ok (t ∷ ts)))
  ahead = ap (λ gs. every_part (map (form_means s) gs) bound n) (drop_more fs i f inside ∙ ap (λ (g : Form). g ∷ drop (i + 1) fs) (sym at))

  pub part_done : (x : Exp) → form_means s f bound n ≡ Ok x → to_come done (every_part (map (form_means s) (drop i fs)) bound n) ≡ to_come (done ++ x ∷ []) others
  part_done x h = ap (to_come done) (ahead ∙ ap (λ o. and_then o (λ t. and_then others (λ ts. Ok (t ∷ ts)))) h) ∙ done_first done x others

  pub part_missing : (e : TermFault) → form_means s f bound n ≡ Err e → to_come done (every_part (map (form_means s) (drop i fs)) bound n) ≡ Err e
  part_missing e h = ap (to_come done) (ahead ∙ ap (λ o. and_then o (λ t. and_then others (λ ts. Ok (t ∷ ts)))) h)

pub all_done : (s : Setting) (fs : List Form) (i : ℕ) (bound : ℕ → Bool) (n : ℕ) (done : List Exp) → length fs ≤ i → to_come done (every_part (map (form_means s) (drop i fs)) bound n) ≡ Ok done
all_done s fs i bound n done l = ap (λ gs. to_come done (every_part (map (form_means s) gs) bound n)) (drop_all i fs l) ∙ ap Ok (append-nil done)

-- ---- `let`: the names in front of what is bound
pub also_in : (names v new : List ℕ) → ((u : ℕ) → list_any (eqb u) new ≡ (list_any (eqb u) names || list_any (eqb u) v)) → also_bound names (are_in v) ≡ are_in new
also_in names v new h = λ i u. sym (h u) i

module _ (names : List ℕ) (values : List Meaning) (body : Meaning) (v v1 v2 : List ℕ) (n : ℕ) where
  abbrev then_body : List Exp → Outcome Exp
  then_body ts = and_then (body (also_bound names (are_in v)) n) (λ b. Ok (Let names (exps_of ts) b))

  pub let_first : (f : TermFault) → every_part values (are_in v) n ≡ Err f → let_inside names values body (are_in v) n ≡ Err f
  let_first f h = ap (λ o. and_then o then_body) h

  pub let_second : (ts : List Exp) (o : Outcome Exp) → every_part values (are_in v) n ≡ Ok ts → v1 ≡ v → also_bound names (are_in v1) ≡ are_in v2 → body (are_in v2) n ≡ o → let_inside names values body (are_in v) n ≡ and_then o (λ b. Ok (Let names (exps_of ts) b))
  let_second ts o h e1 e2 k =
      ap (λ o. and_then o then_body) h
      ∙ ap (λ o. and_then o (λ b. Ok (Let names (exps_of ts) b))) (ap (λ (w : List ℕ). body (also_bound names (are_in w)) n) (sym e1) ∙ (ap (λ (g : ℕ → Bool). body g n) e2 ∙ k))
