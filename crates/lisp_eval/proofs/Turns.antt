-- Turns that a focus may still take before a term is visited.
use Rattle.std.proofs.Common.{◌≡◌, ◌∙◌, ap, sym, refl, ℕ, suc, ◌+◌, ◌*◌, ◌<◌, ◌≤◌, arith, List, [], ◌∷◌, ◌++◌, length, length-append, Option, None, Some}
use Rattle.gl_logic.specs.Exp.{Exp, Exps, Last, More}
use Rattle.gl_logic.specs.Object.{Object}
use Rattle.hons_arena.specs.declared.id.Id.{Id}
use Rattle.memo_tables.specs.Calls.{Call}
use Rattle.lisp_eval.specs.Frames.{Frame, Branch, Arguments, Keep, Focus, Visit, Apply, Give, Work}
use Rattle.lisp_eval.specs.Kept.{kept_frame}
use Rattle.lisp_eval.specs.Moves.{begun, handed}
use Rattle.lisp_eval.specs.States.{frame_of, frames_of, focus_of, IsNext}
use Rattle.lisp_eval.specs.declared.frame.Focus as program
use Rattle.lisp_eval.specs.declared.frame.Focus.TheVariants as focus
use Rattle.lisp_eval.specs.declared.frame.Frame as held
use Rattle.lisp_eval.proofs.Environments.{frames_push}

abbrev pub turns_of : Focus → ℕ
turns_of (Visit t env) = 0
turns_of (Apply w xs) = 3
turns_of (Give v) = 2

-- whatever the arena holds
turns_same : (objects : List Object) (f : program.Focus) → turns_of (focus_of objects f) ≡ turns_of (focus_of [] f)
turns_same objects (focus.Visit t env) = refl
turns_same objects (focus.Apply w xs env) = refl
turns_same objects (focus.Give x) = refl

count_same : (objects : List Object) (fs : List held.Frame) → length (frames_of objects fs) ≡ length (frames_of [] fs)
count_same objects [] = refl
count_same objects (f ∷ fs) = ap suc (count_same objects fs)

kept_few : (objects : List Object) (keep : Option Call) → length (kept_frame objects keep) ≤ 1
kept_few objects None = omega arith
kept_few objects (Some c) = omega arith

pub begun_few : (w : Work) (done : List Object) (ts : Exps) (env : List (ℕ × Object)) → turns_of (begun w done ts env).focus + 2 * length (begun w done ts env).pushed ≤ 3
begun_few w done Last env = omega arith
begun_few w done (More t ts) env = omega arith

handed_few : (g : Frame) (v : Object) → turns_of (handed g v).focus + 2 * length (handed g v).pushed ≤ 3
handed_few (Branch a b env) v = omega arith
handed_few (Arguments w done ts env) v = begun_few w (done ++ v ∷ []) ts env
handed_few (Keep f xs) v = omega arith

pub opens_smaller : (left : ℕ) (u : _) (xs : _) (env : _) (now : program.Focus) → now ≡ focus.Apply u xs env → (keep : Option Call) (frames : List held.Frame) (f : program.Focus) (frames' : List held.Frame) (body : Exp) (inner : List (ℕ × Object))
    → IsNext [] (record { focus = Visit body inner; pushed = kept_frame [] keep }) frames f frames'
    → 5 * left + turns_of (focus_of [] f) + 2 * length (frames_of [] frames') < 5 * left + turns_of (focus_of [] now) + 2 * length (frames_of [] frames)
opens_smaller left u xs env now e keep frames f frames' body inner n =
    let a : turns_of (focus_of [] f) ≡ 0 = ap turns_of n.focus in
    let b : turns_of (focus_of [] now) ≡ 3 = ap (λ g. turns_of (focus_of [] g)) e in
    let c : length (frames_of [] frames') ≡ length (frames_of [] frames) + length (kept_frame [] keep) = ap length n.frames ∙ length-append (frames_of [] frames) (kept_frame [] keep) in
    let k = kept_few [] keep in omega (arith, a, b, c, k)

pub hand_smaller : (left : ℕ) (objects : List Object) (id : Id) (now : program.Focus) → now ≡ focus.Give id → (frames rest : List held.Frame) (g : held.Frame) → frames ≡ rest ++ g ∷ [] → (f : program.Focus) (frames' : List held.Frame) (v : Object)
    → IsNext (objects ++ []) (handed (frame_of (objects ++ []) g) v) rest f frames'
    → 5 * left + turns_of (focus_of [] f) + 2 * length (frames_of [] frames') < 5 * left + turns_of (focus_of [] now) + 2 * length (frames_of [] frames)
hand_smaller left objects id now e frames rest g q f frames' v n =
    let all = objects ++ [] in
    let a : turns_of (focus_of [] f) ≡ turns_of (handed (frame_of all g) v).focus = sym (turns_same all f) ∙ ap turns_of n.focus in
    let b : turns_of (focus_of [] now) ≡ 2 = ap (λ h. turns_of (focus_of [] h)) e in
    let c : length (frames_of all frames') ≡ length (frames_of all rest) + length (handed (frame_of all g) v).pushed = ap length n.frames ∙ length-append (frames_of all rest) (handed (frame_of all g) v).pushed in
    let d : length (frames_of [] frames) ≡ length (frames_of [] rest) + 1 = ap length (frames_push [] rest frames g q) ∙ length-append (frames_of [] rest) (frame_of [] g ∷ []) in
    let k = handed_few (frame_of all g) v in
    omega (arith, a, b, c, d, k, count_same all frames', count_same all rest)
