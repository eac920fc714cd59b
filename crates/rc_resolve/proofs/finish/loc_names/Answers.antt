use Rattle.std.proofs.Common.{◌≡◌, ℕ, ◌+◌, List, [], ◌∷◌, ◌++◌, length, map, drop, refl, sym, ap, ◌∙◌, arith, rules}
use Rattle.std.proofs.lemmas.Grind.{common_steps}
use Rattle.std.proofs.lemmas.List.{at_drop_more}
use Rattle.rc_sheet_spec.specs.Sheet.{LocName}
use Rattle.rc_ast.specs.Names.{loc_name_seen}
use Rattle.rc_ast.specs.declared.names.LocName.{LocName as CodeName}
use Rattle.rc_resolve.specs.Known.{loc_seen}
use Rattle.rc_resolve.specs.Naming.{loc_names}
use Rattle.rc_resolve.specs.Naming.{kind_by}
use Rattle.rc_sheet_spec.specs.Naming.{kind_word}
use Rattle.rc_sheet_spec.specs.Sheet.{LocKind, vloc, iloc, hloc, mem}
use Rattle.rc_resolve.specs.declared.uses.Located.{Located}
use Rattle.rc_resolve.proofs.finish.loc_names.Goals as goal

-- a kind's word says it
said : (kind : LocKind) → kind ≡ kind_by (kind_word kind)
said vloc = refl
said iloc = refl
said hloc = refl
said mem = refl

-- one more name is listed
one_more : (front more : List CodeName) (name : CodeName) (left rest : List (List ℕ × Located)) (entry : (List ℕ × Located))
    (whole : List LocName) (i : ℕ) → more ≡ front ++ name ∷ [] → left ≡ entry ∷ rest → name.name ≡ length front
    → (name.kind ≡ kind_by (kind_word entry.1.kind)) × (name.class ≡ entry.1.class)
    → (map loc_name_seen front ++ loc_names i (map loc_seen left) ≡ whole) × (length front ≡ i)
    → (map loc_name_seen more ++ loc_names (i + 1) (map loc_seen rest) ≡ whole) × (length more ≡ i + 1)
one_more front more name left rest entry whole i pushed taken number told before = grind (arith, common_steps)

pub loop-entry-preserved : goal.loop-entry-preserved
loop-entry-preserved c =
    let locs = c.args.locs.now in
    let i = c.loop-entry.entry-index in
    let number : c.len.result ≡ length c.loop-entry.list.items = search rules in
    let left : drop i locs ≡ c.entry-item.result ∷ drop (i + 1) locs =
    at_drop_more (λ left. left) locs i c.entry-item.result c.loop-entry-test.true
    ∙ ap (λ entry. entry ∷ drop (i + 1) locs) (sym c.entry-item.is) in
    one_more c.loop-entry.list.items c.push.new.self.items _ (drop i locs) (drop (i + 1) locs) c.entry-item.result _ i
    c.in_ok-push.ensures.items left number (said c.entry-item.result.1.kind, refl) c.loop-entry.invariant
