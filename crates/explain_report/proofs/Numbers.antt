-- Digits of a number that are put one after another.
use Rattle.std.proofs.Common.{◌≡◌, ◌∙◌, ap, ℕ, ◌+◌, ◌*◌, ◌/◌, ◌%◌, ◌<◌, ◌≤◌, List, [], ◌∷◌, ◌++◌, append_assoc, div-add-mod', length, arith, Option, Some, None, subst, ℤ}
use Rattle.std.specs.Prelude.{codes, unsigned_abs}
use Rattle.std.specs.Str.Parse.{signed_digits_value}
use Rattle.std.proofs.lemmas.Nat.{mod_below}
use Rattle.std.proofs.Math.Nat.{mod-eq_of_lt}
use Rattle.std.specs.Char.{digit_value}
use Rattle.std.proofs.lemmas.Int.Digits.{digits_value_push, digits_push}
use Rattle.explain_report.specs.Bases.{PutsNumber, PutsInBases, PutsCells, minus}
use Rattle.explain_report.specs.Said.{Says, Adds}

some : (xs : List ℕ) (x : ℕ) → 0 < length (xs ++ x ∷ [])
some [] x = omega arith
some (y ∷ xs) x = omega arith

none_in_front : (b v : ℕ) → 0 * b + v ≡ v
none_in_front b v = omega arith

-- the last digit, behind those of the number without it
digit_behind_bytes : (base n d : ℕ) (old mid new : List ℕ) → 2 ≤ base → PutsNumber base (n / base) old mid → digit_value d ≡ n % base → new ≡ mid ++ d ∷ [] → PutsNumber base n old new
digit_behind_bytes base n d old mid new two h v e =
    let small : n % base < base = mod_below n base (omega (arith, two)) in
    let below : digit_value d < base = rw v small in
    record {
      digits = h.digits ++ d ∷ [];
      put = e ∙ (ap (λ xs. xs ++ d ∷ []) h.put ∙ append_assoc old h.digits (d ∷ []));
      are = (some h.digits d, digits_push base h.digits d h.are.1 below);
      denote = digits_value_push base h.digits d ∙ rw (h.denote, v) (div-add-mod' n base);
    }

-- the only digit
digit_alone_bytes : (base n d : ℕ) (old new : List ℕ) → n < base → digit_value d ≡ n % base → new ≡ old ++ d ∷ [] → PutsNumber base n old new
digit_alone_bytes base n d old new small v e =
    let is : digit_value d ≡ n = v ∙ mod-eq_of_lt small in
    record {
      digits = d ∷ [];
      put = e;
      are = (omega arith, (rw is small, tt));
      denote = none_in_front base (digit_value d) ∙ is;
    }

-- the same in a report
pub digit_behind : (base n d : ℕ) (old mid new : Option (List ℕ)) → 2 ≤ base → Says (PutsNumber base (n / base)) old mid → digit_value d ≡ n % base
    → Adds (d ∷ []) mid new → Says (PutsNumber base n) old new
digit_behind base n d old mid None two h v e = tt
digit_behind base n d old None (Some c) two h v e = absurd e
digit_behind base n d None (Some b) (Some c) two h v e = absurd h
digit_behind base n d (Some a) (Some b) (Some c) two h v e = digit_behind_bytes base n d a b c two h v e

pub digit_alone : (base n d : ℕ) (old new : Option (List ℕ)) → n < base → digit_value d ≡ n % base → Adds (d ∷ []) old new → Says (PutsNumber base n) old new
digit_alone base n d old None small v e = tt
digit_alone base n d None (Some b) small v e = absurd e
digit_alone base n d (Some a) (Some b) small v e = digit_alone_bytes base n d a b small v e

-- what stands in front of an integer, its digits in one base, what stands between, and its digits in the other
pub in_bases : (z : ℤ) (first front between : List ℕ) (a b c d e f g h : Option (List ℕ)) → Adds first a b → Adds front b c → Adds (minus z) c d
    → Says (PutsNumber 16 (unsigned_abs z)) d e → Adds between e f → Adds (minus z) f g → Says (PutsNumber 2 (unsigned_abs z)) g h → Says (PutsInBases z (first ++ front) between) a h
in_bases z first front between a b c d e f g None p q r s t u v = tt
in_bases z first front between a b c d e f None (Some h) p q r s t u v = absurd v
in_bases z first front between a b c d e None (Some g) (Some h) p q r s t u v = absurd u
in_bases z first front between a b c d None (Some f) (Some g) (Some h) p q r s t u v = absurd t
in_bases z first front between a b c None (Some e) (Some f) (Some g) (Some h) p q r s t u v = absurd s
in_bases z first front between a b None (Some d) (Some e) (Some f) (Some g) (Some h) p q r s t u v = absurd r
in_bases z first front between a None (Some c) (Some d) (Some e) (Some f) (Some g) (Some h) p q r s t u v = absurd q
in_bases z first front between None (Some b) (Some c) (Some d) (Some e) (Some f) (Some g) (Some h) p q r s t u v = absurd p
in_bases z first front between (Some a) (Some b) (Some c) (Some d) (Some e) (Some f) (Some g) (Some h) p q r s t u v =
    let both : c ≡ a ++ (first ++ front) = q ∙ (ap (λ xs. xs ++ front) p ∙ append_assoc a first front) in
    let one : d ≡ a ++ (first ++ front) ++ minus z = r ∙ ap (λ xs. xs ++ minus z) both in
    let other : g ≡ e ++ between ++ minus z = u ∙ ap (λ xs. xs ++ minus z) t in
    record {
      before = e;
      hexadecimal = subst (λ xs. PutsNumber 16 (unsigned_abs z) xs e) one s;
      binary = subst (λ xs. PutsNumber 2 (unsigned_abs z) xs h) other v;
    }

-- the same in cells
pub in_cells : (text : List ℕ) (a b c d : Option (List ℕ)) → Adds (codes "<td>") a b
    → Says (PutsInBases (signed_digits_value 10 text) (text ++ codes "</td><td>#x") (codes "</td><td>#b")) b c → Adds (codes "</td>") c d → Says (PutsCells text) a d
in_cells text a b c None p q r = tt
in_cells text a b None (Some d) p q r = absurd r
in_cells text a None (Some c) (Some d) p q r = absurd q
in_cells text None (Some b) (Some c) (Some d) p q r = absurd p
in_cells text (Some a) (Some b) (Some c) (Some d) p q r = record {
  inner = c;
  bases = subst (λ xs. PutsInBases (signed_digits_value 10 text) (text ++ codes "</td><td>#x") (codes "</td><td>#b") xs c) p q;
  closed = r;
}
