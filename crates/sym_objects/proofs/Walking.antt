-- Turns of a work list.
use Rattle.std.proofs.Common.{◌≡◌, refl, sym, subst, ℕ, zero, suc, ◌*◌, ◌<◌, ◌≤◌, List, [], ◌∷◌, Option, None, Some, arith}
use Rattle.sym_objects.specs.declared.walk.Frame.{Frame}
use Rattle.sym_objects.specs.declared.walk.Focus.TheVariants as focus
use Rattle.sym_objects.specs.Walks.{IsNext, Await, weight, Turns}

weight_some : (n : ℕ) → 8 ≤ weight n
unfolding weight
weight_some zero = omega arith
weight_some (suc n) = omega (arith, weight_some n)

weight_rises : (n k : ℕ) → n < k → 8 * weight n ≤ weight k
unfolding weight
weight_rises n zero h = absurd (omega (arith, h))
weight_rises zero (suc k) h = omega (arith, weight_some k)
weight_rises (suc n) (suc k) h = omega (arith, weight_rises n k (omega (arith, h)))

module _ {K V : Type 0} (right right' : K → V → Type 0) (made made' : K → K → K → Type 0) (live : K → Type 0) (size : K → ℕ)
    (keep : (k : K) (v : V) → right k v → right' k v) (stay : (a b c : K) → made a b c → made' a b c) where
  next_kept : (first second : K) (o : Option V) (k : K) → IsNext right first second o k → IsNext right' first second o k
  next_kept first second None k h = h
  next_kept first second (Some v) k h = (keep first v h.0, h.1)

  pub await_kept : (root : K) (fs : List (Frame K V)) (k : K) → Await right made root fs k → Await right' made' root fs k
  await_kept root [] k h = h
  await_kept root (f ∷ fs) k h = (stay f.first f.second f.whole h.0, next_kept f.first f.second f.found k h.1, await_kept root fs f.whole h.2)

  -- the value is there
  pub turn_give : (fs : List (Frame K V)) (k : K) (v : V) → right' k v → Turns right right' made made' live size fs fs (focus.Visit k) (focus.Give k v)
  turn_give fs k v r = record {
    awaits = λ root. await_kept root fs k;
    sound = r;
    falls = omega (arith, weight_some (size k));
  }

  -- the value is made of those of two parts
  pub turn_two : (fs hs : List (Frame K V)) (k a b : K) → hs ≡ record { whole = k; first = a; second = b; found = None } ∷ fs → made' a b k → live a → size a < size k → size b < size k → Turns right right' made made' live size fs hs (focus.Visit k) (focus.Visit a)
  turn_two fs hs k a b e m l la lb =
      let frame : Frame K V = record { whole = k; first = a; second = b; found = None } in
      let turn : Turns right right' made made' live size fs (frame ∷ fs) (focus.Visit k) (focus.Visit a) = record {
        awaits = λ root h. (m, refl, await_kept root fs k h);
        sound = l;
        falls = omega (arith, weight_rises (size a) (size k) la, weight_rises (size b) (size k) lb, weight_some (size a), weight_some (size b));
      } in
      subst (λ (xs : List (Frame K V)). Turns right right' made made' live size fs xs (focus.Visit k) (focus.Visit a)) (sym e) turn

  -- the first part's value is there
  pub turn_second : (fs hs : List (Frame K V)) (whole first second k : K) (o : Option V) (v : V) → o ≡ None → hs ≡ record { whole = whole; first = first; second = second; found = Some v } ∷ fs → right k v → live second
      → Turns right right' made made' live size (record { whole = whole; first = first; second = second; found = o } ∷ fs) hs (focus.Give k v) (focus.Visit second)
  turn_second fs hs whole first second k o v n e r l =
      let frame : Option V → Frame K V = λ p. record { whole = whole; first = first; second = second; found = p } in
      let turn : Turns right right' made made' live size (frame None ∷ fs) (frame (Some v) ∷ fs) (focus.Give k v) (focus.Visit second) = record {
        awaits = λ root h. (stay first second whole h.0, (keep first v (subst (λ (x : K). right x v) h.1 r), refl), await_kept root fs whole h.2);
        sound = l;
        falls = omega (arith, weight_some (size second));
      } in
      subst (λ (p : Option V). Turns right right' made made' live size (frame p ∷ fs) hs (focus.Give k v) (focus.Visit second)) (sym n)
      (subst (λ (xs : List (Frame K V)). Turns right right' made made' live size (frame None ∷ fs) xs (focus.Give k v) (focus.Visit second)) (sym e) turn)

  -- the whole's value is made
  pub turn_last : (fs : List (Frame K V)) (whole first second k : K) (o : Option V) (u v w : V) → o ≡ Some u → right' whole w → Turns right right' made made' live size (record { whole = whole; first = first; second = second; found = o } ∷ fs) fs (focus.Give k v) (focus.Give whole w)
  turn_last fs whole first second k o u v w n r =
      let frame : Option V → Frame K V = λ p. record { whole = whole; first = first; second = second; found = p } in
      let turn : Turns right right' made made' live size (frame (Some u) ∷ fs) fs (focus.Give k v) (focus.Give whole w) = record {
        awaits = λ root h. await_kept root fs whole h.2;
        sound = r;
        falls = omega arith;
      } in
      subst (λ (p : Option V). Turns right right' made made' live size (frame p ∷ fs) fs (focus.Give k v) (focus.Give whole w)) (sym n) turn
