-- What is left to do are terms of the definitions.
use Rattle.std.proofs.Common.{◌≡◌, ℕ, zero, suc, ◌<◌, List, [], ◌∷◌, length, get_or, refl, ap, sym, ◌∙◌, arith, subst, Option, Some, Bor, Vec, Global}
use Rattle.bfr_store.specs.declared.edge.Edge.{Edge}
use Rattle.gl_logic.specs.Definition.{Definition}
use Rattle.gl_logic.specs.Exp.{Exp}
use Rattle.gl_logic.specs.Exp as exp
use Rattle.std.specs.Prelude.{slice_get}
use Rattle.std.specs.Option.{option_map}
use Rattle.gl_logic.proofs.Optional.{some_same}
use Rattle.gl_logic.specs.IsTermOf.{AreTermsOf, IsTermOf, arity_in, count_of}
use Rattle.gl_logic.specs.TermOf.{term_of, terms_of}
use Rattle.gl_logic.specs.declared.term.Term.{Term}
use Rattle.sym_objects.specs.declared.sob.Sob.{Sob}
use Rattle.gl_interp.specs.declared.envs.EnvId.{EnvId}
use Rattle.gl_interp.specs.declared.frame.Path.{Path}
use Rattle.gl_interp.specs.declared.frame.Work.{Work}
use Rattle.gl_interp.specs.declared.frame.Frame.{Frame}
use Rattle.gl_interp.specs.declared.frame.Frame.TheVariants as frame
use Rattle.gl_interp.specs.declared.frame.Focus.{Focus}
use Rattle.gl_interp.specs.declared.frame.Focus.TheVariants as focus
use Rattle.gl_interp.specs.Running.{AreTerms, IsWorkOf}

pub count_terms : (ts : List Term) → count_of (terms_of ts) ≡ length ts
count_terms [] = refl
count_terms (t ∷ ts) = omega (arith, count_terms ts)

term_at : (ds : List Definition) (ts : List Term) (i : ℕ) (u : Term) → i < length ts → get_or ts i u ≡ u → AreTermsOf ds (terms_of ts) → IsTermOf ds (term_of u)
term_at ds [] i u l e h = absurd (omega (arith, l))
term_at ds (t ∷ ts) zero u l e h = subst (λ v. IsTermOf ds (term_of v)) e h.0
term_at ds (t ∷ ts) (suc i) u l e h = term_at ds ts i u (omega (arith, l)) e h.1

-- ---- the definition of a call
pub arity_below : (ds : List Definition) (f n : ℕ) → arity_in ds f ≡ Some n → f < length ds
arity_below [] f n e = absurd cc
arity_below (d ∷ ds) zero n e = omega arith
arity_below (d ∷ ds) (suc f) n e = let l = arity_below ds f n e in omega (arith, l)

arity_at : (n : ℕ) (d : Definition) (o : Option Definition) → option_map (λ (k : Definition). length k.formals) o ≡ Some n → o ≡ Some d → length d.formals ≡ n
arity_at n d o e i = let same : Some (length d.formals) ≡ Some n = sym (ap (option_map (λ (k : Definition). length k.formals)) i) ∙ e in some_same (length d.formals) n same

pub arity_is : (ds : List Definition) (f n : ℕ) (d : Definition) → arity_in ds f ≡ Some n → slice_get ds f ≡ Some d → length d.formals ≡ n
arity_is ds f n d e i = arity_at n d (slice_get ds f) e i

module _ (ds : List Definition) (fs : List Frame) where
  pub terms_give : (f : Focus) (x : Sob) → AreTerms ds fs f → AreTerms ds fs (focus.Give x)
  terms_give f x h = record { frames = h.frames; focus = tt }

  pub terms_if : (hs : List Frame) (t u a b : Bor Term) (env : EnvId) (n : ℕ) → hs ≡ frame.Test a b env n ∷ fs → term_of t.now ≡ exp.If (term_of u.now) (term_of a.now) (term_of b.now) → AreTerms ds fs (focus.Visit t env n) → AreTerms ds hs (focus.Visit u env n)
  terms_if hs t u a b env n e is h =
      let p : IsTermOf ds (exp.If (term_of u.now) (term_of a.now) (term_of b.now)) = subst (λ x. IsTermOf ds x) is h.focus in
      subst (λ ks. AreTerms ds ks (focus.Visit u env n)) (sym e) (record { frames = ((p.1, p.2), h.frames); focus = p.0 })

  pub terms_next : (t : Bor Term) (w : Work) (done : Vec Sob Global) (ts : Bor (List Term)) (items : List Term) (env : EnvId) (n : ℕ) → ts.now ≡ items → (IsTermOf ds (term_of t.now) → IsWorkOf ds (length items) w × AreTermsOf ds (terms_of items)) → AreTerms ds fs (focus.Visit t env n) → AreTerms ds fs (focus.Next w done ts env n)
  terms_next t w done ts items env n e via h =
      let p = via h.focus in
      record { frames = h.frames; focus = (subst (λ (xs : List Term). IsWorkOf ds (length xs) w) (sym e) p.0, subst (λ xs. AreTermsOf ds (terms_of xs)) (sym e) p.1) }

  pub terms_argument : (hs : List Frame) (w : Work) (done : Vec Sob Global) (ts : Bor (List Term)) (t : Bor Term) (u : Term) (env : EnvId) (n : ℕ) → hs ≡ frame.Arguments w done ts env n ∷ fs → length done.items < length ts.now → t.now ≡ u → get_or ts.now (length done.items) u ≡ u
      → AreTerms ds fs (focus.Next w done ts env n) → AreTerms ds hs (focus.Visit t env n)
  terms_argument hs w done ts t u env n e less same is h =
      subst (λ ks. AreTerms ds ks (focus.Visit t env n)) (sym e) (record { frames = (h.focus, h.frames); focus = subst (λ v. IsTermOf ds (term_of v)) (sym same) (term_at ds ts.now (length done.items) u less is h.focus.1) })

  pub terms_all : (w : Work) (done : Vec Sob Global) (ts : Bor (List Term)) (env : EnvId) (n : ℕ) → length done.items ≡ length ts.now → AreTerms ds fs (focus.Next w done ts env n) → AreTerms ds fs (focus.Run w done env n)
  terms_all w done ts env n e h = record { frames = h.frames; focus = subst (λ (m : ℕ). IsWorkOf ds m w) (sym e) h.focus.0 }

  pub terms_other : (hs : List Frame) (f : Frame) (c saved : Edge) (rest kept : Path) (b : Bor Term) (env : EnvId) (n : ℕ) (x : Sob) → f ≡ frame.Other c b env n saved rest → hs ≡ frame.Join c x kept ∷ fs → AreTerms ds (f ∷ fs) (focus.Give x) → AreTerms ds hs (focus.Visit b env n)
  terms_other hs f c saved rest kept b env n x e i h =
      let p : AreTerms ds (frame.Other c b env n saved rest ∷ fs) (focus.Give x) = subst (λ y. AreTerms ds (y ∷ fs) (focus.Give x)) e h in
      subst (λ ks. AreTerms ds ks (focus.Visit b env n)) (sym i) (record { frames = (tt, p.frames.1); focus = p.frames.0 })

  pub terms_join : (f : Frame) (x r : Sob) → AreTerms ds (f ∷ fs) (focus.Give x) → AreTerms ds fs (focus.Give r)
  terms_join f x r h = record { frames = h.frames.1; focus = tt }

  pub terms_done : (f : Frame) (w : Work) (done more : Vec Sob Global) (ts : Bor (List Term)) (env : EnvId) (n : ℕ) (x : Sob) → f ≡ frame.Arguments w done ts env n → AreTerms ds (f ∷ fs) (focus.Give x) → AreTerms ds fs (focus.Next w more ts env n)
  terms_done f w done more ts env n x e h =
      let p : AreTerms ds (frame.Arguments w done ts env n ∷ fs) (focus.Give x) = subst (λ y. AreTerms ds (y ∷ fs) (focus.Give x)) e h in
      record { frames = p.frames.1; focus = p.frames.0 }

  -- into one of a test's branches, or both
  pub terms_first : (a b : Bor Term) (env : EnvId) (n : ℕ) (x : Sob) → AreTerms ds (frame.Test a b env n ∷ fs) (focus.Give x) → AreTerms ds fs (focus.Visit a env n)
  terms_first a b env n x h = record { frames = h.frames.1; focus = h.frames.0.0 }

  pub terms_second : (a b : Bor Term) (env : EnvId) (n : ℕ) (x : Sob) → AreTerms ds (frame.Test a b env n ∷ fs) (focus.Give x) → AreTerms ds fs (focus.Visit b env n)
  terms_second a b env n x h = record { frames = h.frames.1; focus = h.frames.0.1 }

  pub terms_both : (hs : List Frame) (a b : Bor Term) (env : EnvId) (n : ℕ) (x : Sob) (c saved : Edge) (rest : Path) → hs ≡ frame.Other c b env n saved rest ∷ fs → AreTerms ds (frame.Test a b env n ∷ fs) (focus.Give x) → AreTerms ds hs (focus.Visit a env n)
  terms_both hs a b env n x c saved rest e h = subst (λ ks. AreTerms ds ks (focus.Visit a env n)) (sym e) (record { frames = (h.frames.0.1, h.frames.1); focus = h.frames.0.0 })

  -- a body is entered
  pub terms_body : (f : Focus) (b : Bor Term) (env : EnvId) (n : ℕ) → IsTermOf ds (term_of b.now) → AreTerms ds fs f → AreTerms ds fs (focus.Visit b env n)
  terms_body f b env n t h = record { frames = h.frames; focus = t }
