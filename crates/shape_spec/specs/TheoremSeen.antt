-- What contracts see of a theorem.
use Rattle.std.specs.Prelude.{ℕ, zero, suc, List, [], refl, ◌≡◌}
use Rattle.std.specs.Coded.{Coded, code_by, coded×, coded_ℕ, coded_list}
use Rattle.gl_logic.specs.Exp.{Exp}
use Rattle.gl_logic.specs.ExpCode.{coded_exp}
use Rattle.gl_logic.specs.TermOf.{term_of}
use Rattle.shape_spec.specs.ShapeSeen.{ShapeSeen, coded_shape}
use Rattle.shape_spec.specs.declared.theorem.Mode.{Mode}
use Rattle.shape_spec.specs.declared.theorem.Mode.TheVariants as mode
use Rattle.shape_spec.specs.declared.theorem.Thm.{Thm}

-- its name, its terms, the shapes of its variables, its clocks, and the mode and the functions whose calls are kept at its place
pub record TheoremSeen : Type 0 where
  pub name : ℕ
  pub hyp : Exp
  pub concl : Exp
  pub bindings : List (ℕ × ShapeSeen)
  pub hyp_clk : ℕ
  pub concl_clk : ℕ
  pub mode : Mode
  pub memoized : List ℕ

abbrev pub theorem_seen : Thm → TheoremSeen
theorem_seen thm = record {
  name = thm.name.number;
  hyp = term_of thm.hyp;
  concl = term_of thm.concl;
  bindings = thm.bindings;
  hyp_clk = thm.hyp_clk;
  concl_clk = thm.concl_clk;
  mode = thm.mode;
  memoized = thm.memoized;
}

-- a theorem with nothing bound and the settings that a command has where it says nothing
abbrev pub plain_theorem : ℕ → Exp → Exp → TheoremSeen
plain_theorem name h c = record {
  name = name;
  hyp = h;
  concl = c;
  bindings = [];
  hyp_clk = 1000000;
  concl_clk = 1000000;
  mode = mode.Bdd;
  memoized = [];
}

-- with these settings
abbrev pub set_by : ℕ → ℕ → Mode → List ℕ → TheoremSeen → TheoremSeen
set_by hyp_clk concl_clk m memoized thm = record thm { hyp_clk = hyp_clk; concl_clk = concl_clk; mode = m; memoized = memoized }

-- ---- how a ghost value keeps one
abbrev pub mode_number : Mode → ℕ
mode_number mode.Bdd = 0
mode_number mode.Sat = 1
mode_number mode.Param = 2

abbrev pub mode_numbered : ℕ → Mode
mode_numbered zero = mode.Bdd
mode_numbered (suc zero) = mode.Sat
mode_numbered _ = mode.Param

pub mode_back : (m : Mode) → mode_numbered (mode_number m) ≡ m
mode_back mode.Bdd = refl
mode_back mode.Sat = refl
mode_back mode.Param = refl

abbrev pub coded_mode : Coded Mode
coded_mode = code_by ℕ coded_ℕ mode_number mode_numbered mode_back

abbrev pub coded_theorem : Coded TheoremSeen
coded_theorem =
    code_by ((ℕ × (Exp × Exp)) × (List (ℕ × ShapeSeen) × ((ℕ × ℕ) × (Mode × List ℕ))))
    (coded× (coded× coded_ℕ (coded× coded_exp coded_exp)) (coded× (coded_list (coded× coded_ℕ coded_shape)) (coded× (coded× coded_ℕ coded_ℕ) (coded× coded_mode (coded_list coded_ℕ)))))
    (λ t. ((t.name, (t.hyp, t.concl)), (t.bindings, ((t.hyp_clk, t.concl_clk), (t.mode, t.memoized)))))
    (λ p. record { name = p.0.0; hyp = p.0.1.0; concl = p.0.1.1; bindings = p.1.0; hyp_clk = p.1.1.0.0; concl_clk = p.1.1.0.1; mode = p.1.1.1.0; memoized = p.1.1.1.1 })
    (λ _. refl)
