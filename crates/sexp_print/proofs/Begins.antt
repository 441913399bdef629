-- Bytes that begin with others.
use Rattle.std.proofs.Common.{◌≡◌, ◌∙◌, ap, sym, subst, ℕ, ◌≤◌, List, ◌++◌, take, drop, length, arith}
use Rattle.std.proofs.lemmas.List.{take-append-le, length-take, take-append-drop}
use Rattle.std.proofs.Math.Seq.{take-append_seam}
use Rattle.sexp_print.specs.Printed.{BeginsWith}

pub begins_length : (a b : List ℕ) → BeginsWith a b → length a ≤ length b
begins_length a b h = let e : length (take (length a) b) ≡ length a = ap length h in omega (arith, e, length-take (length a) b)

pub begins_more : (a b x : List ℕ) → BeginsWith a b → BeginsWith a (b ++ x)
begins_more a b x h = take-append-le (length a) b x (begins_length a b h) ∙ h

pub begins_trans : (a b c : List ℕ) → BeginsWith a b → BeginsWith b c → BeginsWith a c
begins_trans a b c h k = subst (BeginsWith a) (ap (λ xs. xs ++ drop (length b) c) (sym k) ∙ take-append-drop (length b) c) (begins_more a b (drop (length b) c) h)

-- bytes put last, and more behind them
pub begins_behind : (a b c x : List ℕ) → b ≡ a ++ x → BeginsWith b c → BeginsWith a c
begins_behind a b c x e h = begins_trans a b c (subst (BeginsWith a) (sym e) (take-append_seam a x)) h

pub begins_put : (a b x : List ℕ) → b ≡ a ++ x → BeginsWith a b
begins_put a b x e = subst (BeginsWith a) (sym e) (take-append_seam a x)

pub begins_puts : (a b c x : List ℕ) → BeginsWith a b → c ≡ b ++ x → BeginsWith a c
begins_puts a b c x h e = subst (BeginsWith a) (sym e) (begins_more a b x h)
