-- What a form's fine parts say is found and well formed: items, the scoring, and the body of a sheet.
use Rattle.std.proofs.Common.{◌≡◌, ℕ, suc, ◌+◌, ◌≤◌, ◌<◌, nat_lt, List, [], ◌∷◌, ◌++◌, length, length-append, flat_map, Option, Some, refl, sym, subst, ap, ◌∙◌, arith, lt-ltb}
use Rattle.std.proofs.lemmas.Grind.{flat_map-append}
use Rattle.rc_base.specs.Tree.{Tree, word, list, Trees, nil, cons}
use Rattle.rc_sheet_spec.specs.Sheet.{Class, player_class, team_class, Test, SheetItem, do_item, stage, choice, SheetItems, no_item, Sheet}
use Rattle.rc_sheet_spec.specs.Lists.{item_list}
use Rattle.rc_base.specs.Limits.{most_stages, most_sites}
use Rattle.rc_sheet_spec.specs.Naming.{sheet_naming}
use Rattle.rc_sheet_spec.specs.WellFormed.{Around, in_stage, IsTest, IsItem, AreItems}
use Rattle.rc_check.specs.SecondParts.{Standing, standing_in, Part, form, parts_at, parts_in, with_form}
use Rattle.rc_check.specs.SecondNames.{stages_in, choices_in}
use Rattle.rc_check.specs.SecondFaults.{stage_count, choice_count}
use Rattle.rc_check.specs.Faults.{atom_faults, rule_of, count}
use Rattle.rc_check.specs.declared.grammar.Symbol.TheVariants as symbol
use Rattle.rc_check.specs.declared.grammar.Rule.{Rule}
use Rattle.rc_check.specs.declared.grammar.Rule.TheVariants as rule
use Rattle.rc_sheet.specs.ReadNames.{ensure}
use Rattle.rc_sheet.specs.ReadExpressions.{test_at}
use Rattle.rc_sheet.specs.ReadEffects.{effects_at}
use Rattle.rc_sheet.specs.ReadItems.{Begun, with_stage, with_site, stage_of, end_rule, end_at, item_at, item_rule, items_at}
use Rattle.rc_sheet.proofs.Fine.Common.{Given}
use Rattle.rc_sheet.proofs.Finds.{Finds, finds, makes, follows, follows_this, finds_both, ensures_so}
use Rattle.rc_sheet.proofs.GoodParts.{◌▹◌, Each, by_parts, each_by_parts, one_and_more, three_and_more, list_finds}
use Rattle.rc_sheet.proofs.GoodForms.{from_one, from_three, plain_part, with_two, list_says, rest_good}
use Rattle.rc_sheet.proofs.Fine.Names.{Gives, Good, GoodForm}
use Rattle.rc_sheet.proofs.Fine.Expressions.{reads}
use Rattle.rc_sheet.proofs.Fine.Effects.{AreEffectsOf, effects_find, each_acts, alts_find}

-- HOW MANY STAGES AND CHOICES

-- those of appended parts
pub length_of_both : {A : Type 0} (f : Part → List A) (xs ys : List Part)
    → length (flat_map f (xs ++ ys)) ≡ length (flat_map f xs) + length (flat_map f ys)
length_of_both f xs ys =
    ap (λ all. length all) (flat_map-append f xs ys) ∙ length-append (flat_map f xs) (flat_map f ys)

-- the sheet has room for the stages and choices of these parts, behind what has begun
pub record HasRoom (begun : Begun) (parts : List Part) : Type 0 where
  pub stages : begun.stages + stage_count parts ≤ most_stages
  pub sites : begun.sites + choice_count parts ≤ most_sites

-- no more begin than these parts have
pub record IsWithin (begun : Begun) (parts : List Part) (after : Begun) : Type 0 where
  pub stages : after.stages ≤ begun.stages + stage_count parts
  pub sites : after.sites ≤ begun.sites + choice_count parts

-- there is room for fewer
fewer : (begun before : Begun) (xs ys : List Part) → before.stages + stage_count xs ≤ begun.stages + stage_count ys
    → before.sites + choice_count xs ≤ begun.sites + choice_count ys → HasRoom begun ys → HasRoom before xs
fewer begun before xs ys less less' room =
    let stages = room.stages in
    let sites = room.sites in
    record { stages = omega (arith, less, stages); sites = omega (arith, less', sites) }

-- and what begins there is within more
farther : (begun before after : Begun) (xs ys : List Part) → before.stages + stage_count xs ≤ begun.stages + stage_count ys
    → before.sites + choice_count xs ≤ begun.sites + choice_count ys → IsWithin before xs after → IsWithin begun ys after
farther begun before after xs ys less less' within =
    let stages = within.stages in
    let sites = within.sites in
    record { stages = omega (arith, less, stages); sites = omega (arith, less', sites) }

-- nothing begins
nothing_begins : (begun : Begun) (parts : List Part) → IsWithin begun parts begun
nothing_begins begun parts = record { stages = omega arith; sites = omega arith }

-- PARTS THAT STAND ALIKE

-- the parts of trees that all stand so
abbrev pub parts_alike : Standing → Trees → List Part
parts_alike at nil = []
parts_alike at (cons tree trees) = parts_at (Some at) tree ++ parts_alike at trees

-- are the parts of a form from an index on
alike_parts : (at : Standing) (rule : Rule) (all : Trees) (alike : Standing) (index : ℕ) (trees : Trees)
    → ((i : ℕ) → index ≤ i → standing_in at rule all i ≡ Some alike)
    → parts_in at rule all index trees ≡ parts_alike alike trees
alike_parts at rule all alike index nil same = refl
alike_parts at rule all alike index (cons tree trees) same =
    ap (λ o. parts_at o tree ++ parts_in at rule all (index + 1) trees) (same index (omega arith))
    ∙ ap (λ parts. parts_at (Some alike) tree ++ parts)
    (alike_parts at rule all alike (index + 1) trees (λ i le. same i (omega (arith, le))))

-- the last of four lists of parts has no more than all of them
pub last_of_four : {A : Type 0} (f : Part → List A) (a b c d : List Part)
    → length (flat_map f d) ≤ length (flat_map f (a ++ (b ++ (c ++ d))))
last_of_four f a b c d =
    let first = length_of_both f a (b ++ (c ++ d)) in
    let second = length_of_both f b (c ++ d) in
    let third = length_of_both f c d in
    omega (arith, first, second, third)

-- the items of a stage have no more of what is counted than its parts
inner_counts : {A : Type 0} (f : Part → List A) (at : Standing) (found : Rule) (all : Trees) (head class end : Tree)
    (rest : Trees) (alike : Standing) → ((i : ℕ) → 3 ≤ i → standing_in at found all i ≡ Some alike)
    → length (flat_map f (parts_alike alike rest))
    ≤ length (flat_map f (parts_in at found all 0 (cons head (cons class (cons end rest)))))
inner_counts f at found all head class end rest alike same =
    subst
    (λ inner. length (flat_map f inner)
    ≤ length (flat_map f (parts_in at found all 0 (cons head (cons class (cons end rest))))))
    (alike_parts at found all alike 3 rest same)
    (last_of_four f (parts_at (standing_in at found all 0) head) (parts_at (standing_in at found all 1) class)
    (parts_at (standing_in at found all 2) end) (parts_in at found all 3 rest))

module _ (sheet : Sheet) (given : Given) (gives : Gives sheet given) where
  -- `(end BOOL)`
  pub end_finds : (at : Standing) (tree : Tree) → at.place ≡ symbol.End → at.around.scope ≡ [] → Good sheet given at tree
      → Finds (end_at (sheet_naming sheet) tree) (IsTest sheet at.around)
  end_finds at (word bytes from to) here free good =
      absurd (refused (subst (λ p. atom_faults p bytes from ≡ []) here good.shaped))
    where
      refused : atom_faults symbol.End bytes from ≡ [] → ⊥
      refused is = cc
  end_finds at (list parts from to) here free good =
      list_says given (sheet_naming sheet) (λ tree. Unit {0}) (end_rule (sheet_naming sheet)) symbol.End at parts from to
      here (each_by_parts (λ bytes from to. tt) (λ parts from to each. tt) parts) good
      (with_two given (sheet_naming sheet) (λ tree. Unit {0}) (λ n. refl)
      (λ head t each form.
      subst (λ scope. Finds (test_at (sheet_naming sheet) scope t) (IsTest sheet at.around)) free
      ((reads sheet given gives t).test _ refl form.good.1.0))
      ▹ tt)

  -- ITEM, with what has begun behind it
  abbrev pub ItemAt : Around → Begun → List Part → SheetItem × Begun → Type 0
  ItemAt around begun parts p = IsItem sheet around p.0 × IsWithin begun parts p.1

  -- several items
  abbrev pub ItemsAt : Around → Begun → List Part → ℕ → SheetItems × Begun → Type 0
  ItemsAt around begun parts n p =
      AreItems sheet around p.0 × (length (item_list p.0) ≡ n) × IsWithin begun parts p.1

  -- a tree at the place of an item
  pub record Plays (tree : Tree) : Type 0 where
    pub item : (at : Standing) → at.place ≡ symbol.Item → at.around.scope ≡ [] → Good sheet given at tree
        → (begun : Begun) → HasRoom begun (parts_at (Some at) tree)
        → Finds (item_at (sheet_naming sheet) begun tree) (ItemAt at.around begun (parts_at (Some at) tree))

  -- items, one after the other
  pub items_find : (at : Standing) (trees : Trees) → at.place ≡ symbol.Item → at.around.scope ≡ [] → Each Plays trees
      → Each (Good sheet given at) trees → (begun : Begun) → HasRoom begun (parts_alike at trees)
      → Finds (items_at (sheet_naming sheet) begun trees) (ItemsAt at.around begun (parts_alike at trees) (count trees))
  items_find at nil here free each good begun room = finds (no_item, begun) (tt, refl, nothing_begins begun [])
  items_find at (cons tree trees) here free each good begun room =
      let first = parts_at (Some at) tree in
      let later = parts_alike at trees in
      let stages = length_of_both stages_in first later in
      let sites = length_of_both choices_in first later in
      follows _ _
      (each.0.item at here free good.0 begun
      (fewer begun begun first (first ++ later) (omega (arith, stages)) (omega (arith, sites)) room))
      (λ p is.
      let stages' = is.1.stages in
      let sites' = is.1.sites in
      makes _ _
      (items_find at trees here free each.1 good.1 p.1
      (fewer begun p.1 later (first ++ later) (omega (arith, stages, stages')) (omega (arith, sites, sites')) room))
      (λ q are. (
        (is.0, are.0),
        ap (λ n. suc n) are.1,
        farther begun p.1 q.1 later (first ++ later) (omega (arith, stages, stages')) (omega (arith, sites, sites')) are.2,
      )))

  -- a form as an item, of which this is said where there is room for its parts
  abbrev ItemOf : Standing → ℕ → Begun → Rule → Trees → Type 0
  ItemOf at from begun found parts =
      Each Plays parts → GoodForm sheet given at found parts
      → HasRoom begun (form at found parts from ∷ parts_in at found parts 0 parts)
      → Finds (item_rule (sheet_naming sheet) begun found parts)
      (ItemAt at.around begun (form at found parts from ∷ parts_in at found parts 0 parts))

  -- `(do EFFECT+)`
  do_finds : (at : Standing) (from : ℕ) (begun : Begun) (parts : Trees) → at.around.scope ≡ []
      → ItemOf at from begun rule.Do parts
  do_finds at from begun parts free each good room =
      one_and_more (ItemOf at from begun rule.Do) parts good.fit
      (λ head rest some each good room.
      let all = cons head rest in
      let alike = rest_good given (sheet_naming sheet) Plays at rule.Do all (plain_part at symbol.Effect all) 1 rest
      (from_one _ (λ j. refl)) good.good.1 in
      makes _ (λ effects. (do_item effects, begun))
      (subst (λ scope. Finds (effects_at (sheet_naming sheet) scope rest) (AreEffectsOf sheet given gives rest at.around)) free
      (effects_find sheet given gives _ rest refl (each_acts sheet given gives rest) alike))
      (λ es are. let long = are.1 in ((omega (arith, some, long), are.0), nothing_begins begun _)))
      each good room

  -- a stage, where its number is within the limit
  stage_finds : (begun : Begun) (around : Around) (class : Class) (parts inner : List Part) (n : ℕ) (end : Option Test)
      (items : Option (SheetItems × Begun))
      → ((t : Test) (body : SheetItems) → IsTest sheet (in_stage class around) t → 1 ≤ length (item_list body)
      → AreItems sheet (in_stage class around) body → IsItem sheet around (stage begun.stages class t body))
      → HasRoom begun parts → 1 ≤ n → stage_count inner < stage_count parts → choice_count inner ≤ choice_count parts
      → Finds end (IsTest sheet (in_stage class around))
      → (HasRoom (with_stage begun) inner → Finds items (ItemsAt (in_stage class around) (with_stage begun) inner n))
      → Finds (stage_of begun class end items) (ItemAt around begun parts)
  stage_finds begun around class parts inner n end items makes_stage room some stages sites ends finds_items =
      let most = room.stages in
      follows_this (ensure (nat_lt begun.stages most_stages)) tt _
      (ensures_so _ (lt-ltb begun.stages most_stages (omega (arith, most, stages))) refl)
      (makes _ (λ p. (stage begun.stages class p.0 p.1.0, p.1.1))
      (finds_both _ _ ends
      (finds_items (fewer begun (with_stage begun) inner parts (omega (arith, stages)) (omega (arith, sites)) room)))
      (λ p are.
      let long = are.1.1 in (
        makes_stage p.0 p.1.0 are.0 (omega (arith, some, long)) are.1.0,
        farther begun (with_stage begun) p.1.1 inner parts (omega (arith, stages)) (omega (arith, sites)) are.1.2,
      )))

  -- `(stage player END ITEM+)`
  player_stage_finds : (at : Standing) (from : ℕ) (begun : Begun) (parts : Trees) → at.around.scope ≡ []
      → ItemOf at from begun rule.PlayerStage parts
  player_stage_finds at from begun parts free each good room =
      three_and_more (ItemOf at from begun rule.PlayerStage) parts good.fit
      (λ head class end rest some each good room.
      let all = cons head (cons class (cons end rest)) in
      let alike = record (plain_part at symbol.Item all) { around = in_stage player_class at.around } in
      let same : (i : ℕ) → 3 ≤ i → standing_in at rule.PlayerStage all i ≡ Some alike = from_three _ (λ j. refl) in
      let stands = rest_good given (sheet_naming sheet) Plays at rule.PlayerStage all alike 3 rest same good.good.1.1.1 in
      let stages = inner_counts stages_in at rule.PlayerStage all head class end rest alike same in
      let sites = inner_counts choices_in at rule.PlayerStage all head class end rest alike same in
      stage_finds begun at.around player_class _ (parts_alike alike rest) (count rest) _ _ (λ t body a b c. (a, b, c)) room some
      (omega (arith, stages)) sites (end_finds _ end refl free good.good.1.1.0)
      (λ room. items_find alike rest refl free each.1.1.1 stands (with_stage begun) room))
      each good room

  -- `(stage team END ITEM+)`
  team_stage_finds : (at : Standing) (from : ℕ) (begun : Begun) (parts : Trees) → at.around.scope ≡ []
      → ItemOf at from begun rule.TeamStage parts
  team_stage_finds at from begun parts free each good room =
      three_and_more (ItemOf at from begun rule.TeamStage) parts good.fit
      (λ head class end rest some each good room.
      let all = cons head (cons class (cons end rest)) in
      let alike = record (plain_part at symbol.Item all) { around = in_stage team_class at.around } in
      let same : (i : ℕ) → 3 ≤ i → standing_in at rule.TeamStage all i ≡ Some alike = from_three _ (λ j. refl) in
      let stands = rest_good given (sheet_naming sheet) Plays at rule.TeamStage all alike 3 rest same good.good.1.1.1 in
      let stages = inner_counts stages_in at rule.TeamStage all head class end rest alike same in
      let sites = inner_counts choices_in at rule.TeamStage all head class end rest alike same in
      stage_finds begun at.around team_class _ (parts_alike alike rest) (count rest) _ _ (λ t body a b c. (a, b, c)) room some
      (omega (arith, stages)) sites (end_finds _ end refl free good.good.1.1.0)
      (λ room. items_find alike rest refl free each.1.1.1 stands (with_stage begun) room))
      each good room

  -- a choice, where its number is within the limit
  choice_finds : (at : Standing) (from : ℕ) (begun : Begun) (parts : Trees) → at.around.scope ≡ []
      → ItemOf at from begun rule.Choice parts
  choice_finds at from begun parts free each good room =
      one_and_more (ItemOf at from begun rule.Choice) parts good.fit
      (λ head rest some each good room.
      let all = cons head rest in
      let alike = rest_good given (sheet_naming sheet) Plays at rule.Choice all (plain_part at symbol.Alternative all) 1 rest
      (from_one _ (λ j. refl)) good.good.1 in
      let most = room.sites in
      follows_this (ensure (nat_lt begun.sites most_sites)) tt _
      (ensures_so _ (lt-ltb begun.sites most_sites (omega (arith, most))) refl)
      (makes _ (λ alts. (choice begun.sites alts, with_site begun)) (alts_find sheet given gives _ rest refl free alike)
      (λ alts are.
      let long = are.1 in
      ((good.fine.fits, omega (arith, some, long), are.0), record { stages = omega arith; sites = omega arith }))))
      each good room

  -- where a list has this rule, its parts are the form and the parts of that
  pub item_by : (at : Standing) (parts : Trees) (from to : ℕ) (begun : Begun) (found : Rule)
      → rule_of at.place parts ≡ Some found → Each Plays parts → GoodForm sheet given at found parts
      → HasRoom begun (parts_at (Some at) (list parts from to)) → ItemOf at from begun found parts
      → Finds (item_rule (sheet_naming sheet) begun found parts)
      (ItemAt at.around begun (parts_at (Some at) (list parts from to)))
  item_by at parts from to begun found told each good room finds_item =
      let same = ap (with_form at parts from (λ found. parts_in at found parts 0 parts)) told in
      subst (λ all. Finds (item_rule (sheet_naming sheet) begun found parts) (ItemAt at.around begun all)) (sym same)
      (finds_item each good (subst (HasRoom begun) same room))

  -- each tree is read at the place of an item where it stands well
  pub plays : (tree : Tree) → Plays tree
  plays =
      by_parts
      (λ bytes from to. record {
        item = λ at here free good. absurd (refused bytes from (subst (λ p. atom_faults p bytes from ≡ []) here good.shaped));
      })
      (λ parts from to each. record {
        item = λ at here free good begun room.
            list_finds given (sheet_naming sheet) (λ found. item_rule (sheet_naming sheet) begun found parts) symbol.Item at parts from
            to here good
            ((λ good. item_by at parts from to begun rule.Do good.told each good room (do_finds at from begun parts free))
            ▹ (λ good. item_by at parts from to begun rule.PlayerStage good.told each good room
            (player_stage_finds at from begun parts free))
            ▹ (λ good. item_by at parts from to begun rule.TeamStage good.told each good room
            (team_stage_finds at from begun parts free))
            ▹ (λ good. item_by at parts from to begun rule.Choice good.told each good room
            (choice_finds at from begun parts free))
            ▹ tt);
      })
    where
      refused : (bytes : List ℕ) (from : ℕ) → atom_faults symbol.Item bytes from ≡ [] → ⊥
      refused bytes from is = cc
