use Rattle.std.proofs.Common.{◌≡◌, ◌∙◌, ap, arith, ◌<◌, ◌-◌, ◌++◌, ◌∷◌, [], ℕ, length, map, Some}
use Rattle.std.specs.Option.{option_map}
use Rattle.std.proofs.lemmas.List.{map-append}
use Rattle.gl_translate.specs.Meaning.{Meaning}
use Rattle.gl_translate.specs.Macros.{all_bound, bound_by}
use Rattle.gl_translate.specs.Translation.{meaning, meanings}
use Rattle.gl_translate.specs.declared.form.Form.TheVariants as form
use Rattle.gl_translate.specs.Steps.{form_means, bindings_of}
use Rattle.gl_translate.specs.Contexts.{setting_in}
use Rattle.gl_translate.proofs.Forward.{taken_next}
use Rattle.gl_translate.proofs.context.Context.all_bound.Goals as goal

pub loop-left-preserved : goal.loop-left-preserved
loop-left-preserved c =
    let s = setting_in c.args.self.now in
    let xs = c.args.bindings.now in
    let x = c.index-bindings-left.result in
    let left = c.loop-left.left in
    let e : ℕ × Meaning = (c.in-Some.name.number, meaning s c.in-Some.value.now) in
    let whole = all_bound s (bindings_of s xs) in
    let some : 0 < left = omega (arith, c.loop-left-test.true) in
    let inside : left - 1 < length xs = omega (arith, some, c.loop-left.invariant.within) in
    let bound : Some e ≡ bound_by s x (meanings s x) = c.in-Some.ensures in
    let values : map (form_means s) c.push-in-Some.new.self.items ≡ map (form_means s) c.loop-left.values.items ++ meaning s c.in-Some.value.now ∷ [] =
    ap (map (form_means s)) c.in_ok-push-in-Some-2.ensures.items ∙ map-append (form_means s) c.loop-left.values.items (form.Book c.in-Some.value ∷ []) in
    record {
      within = omega (arith, inside);
      names_come = taken_next s xs x left e inside some c.index-bindings-left.is bound (λ b. b.0) c.loop-left.names c.push.new.self (option_map (map (λ b. b.0)) whole) c.in_ok-push-in-Some.ensures.ok c.loop-left.invariant.names_come;
      values_come = taken_next s xs x left e inside some c.index-bindings-left.is bound (λ b. b.1) (map (form_means s) c.loop-left.values.items) (map (form_means s) c.push-in-Some.new.self.items) (option_map (map (λ b. b.1)) whole) values c.loop-left.invariant.values_come;
    }
