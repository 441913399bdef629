-- Work lists: the value of a key is made of the values of two others, down to keys whose value is there at once.
use Rattle.std.specs.Prelude.{ℕ, zero, suc, ◌≡◌, ◌<◌, ◌+◌, ◌*◌, List, [], ◌∷◌, Option, None, Some}
use Rattle.sym_objects.specs.declared.walk.Frame.{Frame}
use Rattle.sym_objects.specs.declared.walk.Focus.{Focus}
use Rattle.sym_objects.specs.declared.walk.Focus.TheVariants as focus

-- the value of this key comes next: that of the first part, or that of the second beside the first's right value
abbrev pub IsNext : {K V : Type 0} → (K → V → Type 0) → K → K → Option V → K → Type 0
IsNext right first second None k = k ≡ first
IsNext right first second (Some v) k = right first v × (k ≡ second)

-- the frames, the top one first, wait for the value of a key, and give the root's at the end
abbrev pub Await : {K V : Type 0} → (K → V → Type 0) → (K → K → K → Type 0) → K → List (Frame K V) → K → Type 0
Await right made root [] k = k ≡ root
Await right made root (f ∷ fs) k = made f.first f.second f.whole × IsNext right f.first f.second f.found k × Await right made root fs f.whole

abbrev pub key_in : {K V : Type 0} → Focus K V → K
key_in (focus.Visit k) = k
key_in (focus.Give k v) = k

-- a key that is to be visited is live, and a value that is handed on is right
abbrev pub IsSound : {K V : Type 0} → (K → Type 0) → (K → V → Type 0) → Focus K V → Type 0
IsSound live right (focus.Visit k) = live k
IsSound live right (focus.Give k v) = right k v

-- ---- turns: a visit is more than the visits of two parts
unfoldable pub weight : ℕ → ℕ
weight zero = 8
weight (suc n) = 8 * weight n

abbrev pub found_weight : {V : Type 0} → ℕ → Option V → ℕ
found_weight n None = weight n + 2
found_weight n (Some v) = 1

abbrev pub frames_weight : {K V : Type 0} → (K → ℕ) → List (Frame K V) → ℕ
frames_weight size [] = 0
frames_weight size (f ∷ fs) = found_weight (size f.second) f.found + frames_weight size fs

abbrev pub focus_weight : {K V : Type 0} → (K → ℕ) → Focus K V → ℕ
focus_weight size (focus.Visit k) = weight (size k)
focus_weight size (focus.Give k v) = 0

-- one turn: the frames that waited for the old focus wait for the new one, which is sound, and less is left to do
pub record Turns {K V : Type 0} (right right' : K → V → Type 0) (made made' : K → K → K → Type 0) (live : K → Type 0) (size : K → ℕ) (fs hs : List (Frame K V)) (f h : Focus K V) : Type 0 where
  pub awaits : (root : K) → Await right made root fs (key_in f) → Await right' made' root hs (key_in h)
  pub sound : IsSound live right' h
  pub falls : focus_weight size h + frames_weight size hs < focus_weight size f + frames_weight size fs
