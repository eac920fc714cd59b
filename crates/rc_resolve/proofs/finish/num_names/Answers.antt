use Rattle.std.proofs.Common.{◌≡◌, ℕ, ◌+◌, List, [], ◌∷◌, ◌++◌, length, map, drop, refl, sym, ap, ◌∙◌, arith, rules}
use Rattle.std.proofs.lemmas.Grind.{common_steps}
use Rattle.std.proofs.lemmas.List.{at_drop_more}
use Rattle.rc_sheet_spec.specs.Sheet.{NumName, Class}
use Rattle.rc_ast.specs.Names.{num_name_seen}
use Rattle.rc_ast.specs.declared.names.NumName.{NumName as CodeName}
use Rattle.rc_resolve.specs.Known.{num_seen}
use Rattle.rc_resolve.specs.Naming.{num_names}
use Rattle.rc_resolve.proofs.finish.num_names.Goals as goal

-- one more name is listed
one_more : (front more : List CodeName) (name : CodeName) (left rest : List (List ℕ × Class)) (entry : (List ℕ × Class))
    (whole : List NumName) (i : ℕ) → more ≡ front ++ name ∷ [] → left ≡ entry ∷ rest → name.name ≡ length front
    → name.class ≡ entry.1
    → (map num_name_seen front ++ num_names i (map num_seen left) ≡ whole) × (length front ≡ i)
    → (map num_name_seen more ++ num_names (i + 1) (map num_seen rest) ≡ whole) × (length more ≡ i + 1)
one_more front more name left rest entry whole i pushed taken number said before = grind (arith, common_steps)

pub loop-entry-preserved : goal.loop-entry-preserved
loop-entry-preserved c =
    let nums = c.args.nums.now in
    let i = c.loop-entry.entry-index in
    let number : c.len.result ≡ length c.loop-entry.list.items = search rules in
    let left : drop i nums ≡ c.entry-item.result ∷ drop (i + 1) nums =
    at_drop_more (λ left. left) nums i c.entry-item.result c.loop-entry-test.true
    ∙ ap (λ entry. entry ∷ drop (i + 1) nums) (sym c.entry-item.is) in
    one_more c.loop-entry.list.items c.push.new.self.items _ (drop i nums) (drop (i + 1) nums) c.entry-item.result _ i
    c.in_ok-push.ensures.items left number refl c.loop-entry.invariant
