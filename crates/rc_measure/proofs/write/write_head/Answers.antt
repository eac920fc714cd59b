use Rattle.std.proofs.Common.{◌≡◌, ℕ, ℤ, List, ◌++◌, codes, ap, ◌∙◌, append_assoc}
use Rattle.std.specs.Prelude.{string_bytes}
use Rattle.rc_measure.specs.Seen.{measures_seen}
use Rattle.rc_measure.specs.Text.{matches_text, fraction_line}
use Rattle.rc_measure.proofs.write.write_head.Goals as goal

then : (old a b middle new : List ℕ) → middle ≡ old ++ a → new ≡ middle ++ b → new ≡ old ++ (a ++ b)
then old a b middle new e e' = e' ∙ ap (λ t. t ++ b) e ∙ append_assoc old a b

row : (front word : List ℕ) (xs ys : List ℤ) → xs ≡ ys → front ++ fraction_line word xs ≡ front ++ fraction_line word ys
row front word xs ys e = ap (λ xs. front ++ fraction_line word xs) e

pub returns : goal.returns
returns c =
    let m = measures_seen c.args.m.now in
    let old = string_bytes c.args.out.now in
    let a = matches_text m in
    let b = a ++ fraction_line (codes "choices ") m.choices in
    let d = b ++ fraction_line (codes "forced ") m.forced in
    let e = d ++ fraction_line (codes "menu ") m.menu in
    let f = e ++ fraction_line (codes "spread ") m.spread in
    then old f (fraction_line (codes "leads ") m.leads) _ _
    (then old e (fraction_line (codes "spread ") m.spread) _ _
    (then old d (fraction_line (codes "menu ") m.menu) _ _
    (then old b (fraction_line (codes "forced ") m.forced) _ _
    (then old a (fraction_line (codes "choices ") m.choices) _ _ c.in_ok-write_matches.ensures (c.in_ok-write_fraction.ensures ∙ row (string_bytes c.write_matches.new.out) (codes "choices ") c.deref.result.now _ c.deref.ensures.value))
    (c.in_ok-write_fraction-2.ensures ∙ row (string_bytes c.write_fraction.new.out) (codes "forced ") c.deref-2.result.now _ c.deref-2.ensures.value)) (c.in_ok-write_fraction-3.ensures ∙ row (string_bytes c.write_fraction-2.new.out) (codes "menu ") c.deref-3.result.now _ c.deref-3.ensures.value)) (c.in_ok-write_fraction-4.ensures ∙ row (string_bytes c.write_fraction-3.new.out) (codes "spread ") c.deref-4.result.now _ c.deref-4.ensures.value)) (c.in_ok-write_fraction-5.ensures ∙ row (string_bytes c.write_fraction-4.new.out) (codes "leads ") c.deref-5.result.now _ c.deref-5.ensures.value)
