-- Parts of what is written, one after another.
use Rattle.std.proofs.Common.{◌≡◌, ◌∙◌, ap, sym, refl, subst, List, ℕ, [], ◌∷◌, ◌++◌, append_assoc, Option, Some, None}
use Rattle.gl_base.specs.Outside.{Grows}
use Rattle.explain_report.specs.declared.shown.Style.{Style}
use Rattle.explain_report.specs.Shown.{shown, shown_byte}

pub shown_append : (s : Style) (xs ys : List ℕ) → shown s (xs ++ ys) ≡ shown s xs ++ shown s ys
shown_append s [] ys = refl
shown_append s (x ∷ xs) ys = ap (λ zs. shown_byte s x ++ zs) (shown_append s xs ys) ∙ sym (append_assoc (shown_byte s x) (shown s xs) (shown s ys))

-- three parts that come one after another
pub joined : (a b c d : Option (List ℕ)) (x y z : List ℕ) → Grows a b x → Grows b c y → Grows c d z → Grows a d (x ++ (y ++ z))
joined None b c d x y z h k l = tt
joined (Some w) b c d x y z h k l =
    let two : c ≡ Some ((w ++ x) ++ y) = subst (λ o. Grows o c y) h k in
    let three : d ≡ Some (((w ++ x) ++ y) ++ z) = subst (λ o. Grows o d z) two l in
    three ∙ ap Some (append_assoc (w ++ x) y z ∙ append_assoc w x (y ++ z))
