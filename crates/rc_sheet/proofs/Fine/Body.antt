-- What a form's fine parts say is found and well formed: the scoring, and the body of a sheet.
use Rattle.std.proofs.Common.{◌≡◌, ℕ, Bool, ◌+◌, ◌≤◌, ◌||◌, ◌==◌, true, false, nat_le, List, [], ◌∷◌, ◌++◌, length, Some, None, option_map, refl, sym, subst, ap, ◌∙◌, arith, le-leb, eq-eqb, ne_eqb}
use Rattle.std.specs.List.{All}
use Rattle.std.proofs.lemmas.List.Elements.{recursion_from_All}
use Rattle.rc_base.specs.Tree.{Tree, word, list, Trees, nil, cons}
use Rattle.rc_sheet_spec.specs.Sheet.{IntExpr, Best, highest, lowest, SheetItems, Sheet}
use Rattle.rc_sheet_spec.specs.Lists.{item_list}
use Rattle.rc_base.specs.Limits.{most_stages, most_sites}
use Rattle.rc_sheet_spec.specs.Mentions.{sites_in}
use Rattle.rc_sheet_spec.specs.Mentions.{stages_in as stages_in_tree}
use Rattle.rc_sheet_spec.specs.Naming.{Naming, sheet_naming}
use Rattle.rc_sheet_spec.specs.WellFormed.{outside, scored, IsInt, AreItems}
use Rattle.rc_check.specs.SecondParts.{Standing, standing_in, standing_alone, Part, form, parts_at, parts_in, with_form, parts_of}
use Rattle.rc_check.specs.SecondNames.{stages_in, choices_in}
use Rattle.rc_check.specs.SecondFaults.{stage_count, choice_count}
use Rattle.rc_check.specs.Faults.{is_word, atom_faults, faults, rule_of, count, behind_front}
use Rattle.rc_check.specs.declared.keyword.Keyword.TheVariants as keyword
use Rattle.rc_check.specs.declared.grammar.Symbol.TheVariants as symbol
use Rattle.rc_check.specs.declared.grammar.Rule.TheVariants as rule
use Rattle.rc_check.specs.declared.fault.SheetKind.TheVariants.{Shape}
use Rattle.rc_sheet.specs.ReadNames.{◌>>=◌, ensure}
use Rattle.rc_sheet.specs.ReadItems.{none_begun, items_at, best_at, score_rule, score_at, but_last, last_of, body_at}
use Rattle.rc_sheet.proofs.Fine.Common.{Given, IsFine}
use Rattle.rc_sheet.proofs.Finds.{Finds, finds, finds_if, implies, makes, follows_this, finds_both, finds_meaning, whether, where_true, ensures_so}
use Rattle.rc_sheet.proofs.GoodParts.{◌▹◌, Each, each_by_parts, three_and_more, IsGood, IsGoodForm, GoodAt, AreGood, good_form, no_list}
use Rattle.rc_sheet.proofs.GoodForms.{from_two, plain_part, with_three, list_says}
use Rattle.rc_sheet.proofs.Fine.Names.{passes_test, Gives, Good}
use Rattle.rc_sheet.proofs.Fine.Expressions.{reads}
use Rattle.rc_sheet.proofs.CountedItems.{items_count}
use Rattle.rc_sheet.proofs.Fine.Items.{length_of_both, last_of_four, HasRoom, parts_alike, Plays, items_find, plays}
use Rattle.rc_sheet.proofs.Shapes.{rule_holds}

-- which scores are best
best_finds : (bytes : List ℕ) (from to : ℕ) → (is_word keyword.Max bytes || is_word keyword.Min bytes) ≡ true
    → Finds (best_at (word bytes from to)) (λ best. Unit {0})
best_finds bytes from to taken =
    whether (is_word keyword.Max bytes) (Some highest) _ (λ is. finds highest tt)
    (λ other. where_true (is_word keyword.Min bytes) (Some lowest) None
    (ap (λ b. b || is_word keyword.Min bytes) (sym other) ∙ taken) (finds lowest tt))

-- how the last part of a sheet stands, and one before it behind the setup
abbrev pub last_part : Standing → Trees → Standing
last_part at all = plain_part at symbol.Scoring all

-- and how one before it does
abbrev pub item_part : Standing → Trees → Standing
item_part at all = plain_part at symbol.Item all

-- all trees but the last are one less
count_but_last : (trees : Trees) → 1 ≤ count trees → count (but_last trees) + 1 ≡ count trees
count_but_last nil some = absurd (omega (arith, some))
count_but_last (cons tree nil) some = refl
count_but_last (cons tree (cons next rest)) some = let less = count_but_last (cons next rest) (omega arith) in omega (arith, less)

module _ (given : Given) (naming : Naming) where
  -- what stands behind the setup: items, and last the scoring
  pub record IsBody (at : Standing) (all : Trees) (trees : Trees) (parts : List Part) : Type 0 where
    pub items : Each (IsGood given naming (item_part at all)) (but_last trees)
    pub scoring : Tree
    pub is_last : last_of trees ≡ Some scoring
    pub scores : IsGood given naming (last_part at all) scoring
    pub stages : stage_count (parts_alike (item_part at all) (but_last trees)) ≤ stage_count parts
    pub sites : choice_count (parts_alike (item_part at all) (but_last trees)) ≤ choice_count parts

  -- how the part at an index behind the setup stands
  stands_behind : (at : Standing) (all : Trees) (last : Bool) (i : ℕ) → 2 ≤ i → (i + 1 == count all) ≡ last
      → standing_in at rule.Game all i ≡ option_map (λ p. plain_part at p all) (behind_front rule.Game last)
  stands_behind at all last =
      from_two _ (λ j is. ap (λ b. option_map (λ p. plain_part at p all) (behind_front rule.Game b)) is)

  -- so they are such
  is_body : (at : Standing) (all : Trees) (index : ℕ) (trees : Trees) → 2 ≤ index → index + count trees ≡ count all
      → 1 ≤ count trees → AreGood given naming at rule.Game all index trees
      → IsBody at all trees (parts_in at rule.Game all index trees)
  is_body at all index nil behind whole some good = absurd (omega (arith, some))
  is_body at all index (cons tree nil) behind whole some good =
      let ends = stands_behind at all true index behind (eq-eqb (index + 1) (count all) (omega (arith, whole))) in
      record {
        items = tt;
        scoring = tree;
        is_last = refl;
        scores = subst (λ o. GoodAt given naming o tree) ends good.0;
        stages = omega arith;
        sites = omega arith;
      }
  is_body at all index (cons tree (cons next rest)) behind whole some good =
      let more = ne_eqb (index + 1) (count all) (λ same. omega (arith, whole, same)) in
      let stands = stands_behind at all false index behind more in
      let later = is_body at all (index + 1) (cons next rest) (omega (arith, behind)) (omega (arith, whole))
      (omega arith) good.1 in
      let ours = parts_at (Some (item_part at all)) tree in
      let theirs = parts_alike (item_part at all) (but_last (cons next rest)) in
      let others = parts_in at rule.Game all (index + 1) (cons next rest) in
      let stages = length_of_both stages_in ours theirs in
      let stages' = length_of_both stages_in ours others in
      let sites = length_of_both choices_in ours theirs in
      let sites' = length_of_both choices_in ours others in
      let fewer = later.stages in
      let fewer' = later.sites in
      record {
        items = (subst (λ o. GoodAt given naming o tree) stands good.0, later.items);
        scoring = later.scoring;
        is_last = later.is_last;
        scores = later.scores;
        stages = subst (λ o. stage_count (ours ++ theirs) ≤ stage_count (parts_at o tree ++ others)) (sym stands)
            (omega (arith, stages, stages', fewer));
        sites = subst (λ o. choice_count (ours ++ theirs) ≤ choice_count (parts_at o tree ++ others)) (sym stands)
            (omega (arith, sites, sites', fewer'));
      }

  -- THE WHOLE FORM

  -- `(game SETUP ITEM+ SCORING)`, of which the parts stand well, and which has no more stages and choices than a sheet may have
  pub record IsGame (tree : Tree) : Type 0 where
    pub head : Tree
    pub setup : Tree
    pub rest : Trees
    pub from : ℕ
    pub to : ℕ
    pub is : tree ≡ list (cons head (cons setup rest)) from to
    pub told : rule_of symbol.Sheet (cons head (cons setup rest)) ≡ Some rule.Game
    pub good : IsGoodForm given naming standing_alone rule.Game (cons head (cons setup rest))
    pub some : 2 ≤ count rest
    pub parts : List Part
    pub body : IsBody standing_alone (cons head (cons setup rest)) rest parts
    pub room : HasRoom none_begun parts

  -- by its parts
  game_by : (from to : ℕ) (parts : Trees) → IsGoodForm given naming standing_alone rule.Game parts
      → HasRoom none_begun (form standing_alone rule.Game parts from ∷ parts_in standing_alone rule.Game parts 0 parts)
      → IsGame (list parts from to)
  game_by from to parts good room =
      three_and_more
      (λ parts. IsGoodForm given naming standing_alone rule.Game parts
      → HasRoom none_begun (form standing_alone rule.Game parts from ∷ parts_in standing_alone rule.Game parts 0 parts)
      → IsGame (list parts from to))
      parts good.fit
      (λ head setup next rest some good room.
      let all = cons head (cons setup (cons next rest)) in
      let inner = parts_in standing_alone rule.Game all 2 (cons next rest) in
      let first = parts_at (standing_in standing_alone rule.Game all 0) head in
      let second = parts_at (standing_in standing_alone rule.Game all 1) setup in
      let stages = last_of_four stages_in [] first second inner in
      let sites = last_of_four choices_in [] first second inner in
      let few = room.stages in
      let few' = room.sites in
      let body = is_body standing_alone all 2 (cons next rest) (omega arith) (omega arith) (omega arith) good.good.1.1 in
      record {
        head = head;
        setup = setup;
        rest = cons next rest;
        from = from;
        to = to;
        is = refl;
        told = good.told;
        good = good;
        some = omega (arith, some);
        parts = inner;
        body = body;
        room = record { stages = omega (arith, stages, few); sites = omega (arith, sites, few') };
      })
      good room

  -- a form without a fault of shape whose parts are fine
  pub game_is_fine : (tree : Tree) → faults symbol.Sheet tree ≡ [] → All (IsFine given naming) (parts_of tree)
      → stage_count (parts_of tree) ≤ most_stages → choice_count (parts_of tree) ≤ most_sites → IsGame tree
  game_is_fine (word bytes from to) shaped fine stages sites = absurd (refused shaped)
    where
      refused : atom_faults symbol.Sheet bytes from ≡ [] → ⊥
      refused is = cc
  game_is_fine (list parts from to) shaped fine stages sites =
      let good = good_form given naming standing_alone parts from to
      (record { shaped = shaped; fine = recursion_from_All (IsFine given naming) _ fine }) in
      let same = ap (with_form standing_alone parts from (λ found. parts_in standing_alone found parts 0 parts)) good.1.told in
      let room : HasRoom none_begun (parts_of (list parts from to))
      = record { stages = omega (arith, stages); sites = omega (arith, sites) } in
      rule_holds
      (λ found. IsGoodForm given naming standing_alone found parts
      → HasRoom none_begun (form standing_alone found parts from ∷ parts_in standing_alone found parts 0 parts)
      → IsGame (list parts from to))
      symbol.Sheet parts good.0 good.1.told ((λ good room. game_by from to parts good room) ▹ tt) good.1
      (subst (HasRoom none_begun) same room)

module _ (sheet : Sheet) (given : Given) (gives : Gives sheet given) where
  -- `(scoring BEST INT)`
  pub score_finds : (at : Standing) (tree : Tree) → at.place ≡ symbol.Scoring → Good sheet given at tree
      → Finds (score_at (sheet_naming sheet) tree) (λ p. IsInt sheet scored p.1)
  score_finds at (word bytes from to) here good =
      absurd (refused (subst (λ p. atom_faults p bytes from ≡ []) here good.shaped))
    where
      refused : atom_faults symbol.Scoring bytes from ≡ [] → ⊥
      refused is = cc
  score_finds at (list parts from to) here good =
      list_says given (sheet_naming sheet) (λ tree. Unit {0}) (score_rule (sheet_naming sheet)) symbol.Scoring at parts from to
      here (each_by_parts (λ bytes from to. tt) (λ parts from to each. tt) parts) good
      (with_three given (sheet_naming sheet) (λ tree. Unit {0}) (λ n. refl)
      (λ head best value each form. implies _
      (finds_both _ _ (best_is_found _ best refl form.good.1.0) ((reads sheet given gives value).int _ refl form.good.1.1.0))
      (λ p is. is.1))
      ▹ tt)
    where
      best_is_found : (at : Standing) (tree : Tree) → at.place ≡ symbol.Best → Good sheet given at tree
          → Finds (best_at tree) (λ best. Unit {0})
      best_is_found at (word bytes from to) here good =
          best_finds bytes from to (passes_test (is_word keyword.Max bytes || is_word keyword.Min bytes) Shape from
          (subst (λ p. atom_faults p bytes from ≡ []) here good.shaped))
      best_is_found at (list parts from to) here good =
          absurd (no_list given (sheet_naming sheet) symbol.Best at parts from to here good refl)

  -- each of these trees is read at the place of an item
  each_plays : (trees : Trees) → Each (Plays sheet given gives) trees
  each_plays nil = tt
  each_plays (cons tree trees) = (plays sheet given gives tree, each_plays trees)

  -- items with no more stages and choices than a sheet may have
  abbrev pub HasFew : SheetItems → Type 0
  HasFew items = (length (stages_in_tree items) ≤ most_stages) × (length (sites_in items) ≤ most_sites)

  -- a sheet's items and its score
  abbrev pub BodyAt : SheetItems × (Best × IntExpr) → Type 0
  BodyAt body =
      AreItems sheet outside body.0 × (1 ≤ length (item_list body.0)) × IsInt sheet scored body.1.1 × HasFew body.0

  -- the items
  items_of_body : (all rest : Trees) (parts : List Part) → IsBody given (sheet_naming sheet) standing_alone all rest parts
      → HasRoom none_begun parts
      → Finds (option_map (λ p. p.0) (items_at (sheet_naming sheet) none_begun (but_last rest)))
      (λ items. AreItems sheet outside items × (length (item_list items) ≡ count (but_last rest)) × HasFew items)
  items_of_body all rest parts body room =
      let stages = body.stages in
      let sites = body.sites in
      let few = room.stages in
      let few' = room.sites in
      makes _ (λ p. p.0)
      (finds_meaning _
      (items_find sheet given gives (item_part standing_alone all) (but_last rest) refl refl
      (each_plays (but_last rest)) body.items
      none_begun (record { stages = omega (arith, stages, few); sites = omega (arith, sites, few') }))
      (items_count (sheet_naming sheet) none_begun (but_last rest)))
      (λ p are.
      let begun = are.0.2.stages in
      let begun' = are.0.2.sites in
      let counted = are.1.stages_between in
      let counted' = are.1.sites_between in
      (are.0.0, are.0.1, (omega (arith, stages, few, begun, counted), omega (arith, sites, few', begun', counted'))))

  -- the score
  score_of_body : (all rest : Trees) (parts : List Part) → IsBody given (sheet_naming sheet) standing_alone all rest parts
      → Finds (last_of rest >>= score_at (sheet_naming sheet)) (λ p. IsInt sheet scored p.1)
  score_of_body all rest parts body =
      follows_this (last_of rest) body.scoring (score_at (sheet_naming sheet))
      (finds_if (last_of rest) body.scoring body.is_last refl)
      (score_finds (last_part standing_alone all) body.scoring refl body.scores)

  -- both
  pub body_finds : (all rest : Trees) (parts : List Part) → 2 ≤ count rest
      → IsBody given (sheet_naming sheet) standing_alone all rest parts
      → HasRoom none_begun parts → Finds (body_at (sheet_naming sheet) rest) BodyAt
  body_finds all rest parts some body room =
      let less = count_but_last rest (omega (arith, some)) in
      follows_this (ensure (nat_le 2 (count rest))) tt _ (ensures_so _ (le-leb 2 (count rest) some) refl)
      (implies _ (finds_both _ _ (items_of_body all rest parts body room) (score_of_body all rest parts body))
      (λ p are. let long = are.0.1 in (are.0.0, omega (arith, some, less, long), are.1, are.0.2)))

  -- its items and its score are read, and are well formed
  pub game_body_finds : (tree : Tree) (game : IsGame given (sheet_naming sheet) tree)
      → Finds (body_at (sheet_naming sheet) game.rest) BodyAt
  game_body_finds tree game =
      body_finds (cons game.head (cons game.setup game.rest)) game.rest game.parts game.some game.body game.room
