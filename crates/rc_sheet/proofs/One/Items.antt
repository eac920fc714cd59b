-- What is read off a form for which a sheet's part stands is that part: items and the score. Stages and choices are numbered
-- in the order of the text.
use Rattle.std.proofs.Common.{◌≡◌, ℕ, zero, suc, ◌+◌, nat_lt, nat_le, Bool, true, false, List, [], ◌∷◌, ◌++◌, length, flat_map, Option, Some, option_map, refl, sym, subst, ap, ap₂}
use Rattle.std.specs.Prelude.{codes}
use Rattle.std.specs.List.{range_with_len}
use Rattle.rc_base.specs.Tree.{Tree, word, list, Trees, nil, cons}
use Rattle.rc_sheet_spec.specs.Sheet.{Class, game_class, player_class, team_class, Test, Best, highest, lowest, Alt, SheetItem, do_item, stage, choice, SheetItems, no_item, item, Sheet}
use Rattle.rc_base.specs.Limits.{most_stages, most_sites}
use Rattle.rc_sheet_spec.specs.Mentions.{Mention, in_int, in_test, in_effects, in_alt, in_item, in_items, stages_in_item, stages_in, sites_in_item, sites_in}
use Rattle.rc_base.specs.Numbers.{below}
use Rattle.rc_sheet_spec.specs.Rows.{◌▸◌, End, AtLeast, Row, Atom}
use Rattle.rc_sheet_spec.specs.Rows.{Some as Full}
use Rattle.rc_sheet_spec.specs.Naming.{Naming, self_scope, sheet_naming}
use Rattle.rc_sheet_spec.specs.StandsExpressions.{StandsInt, StandsTest}
use Rattle.rc_sheet_spec.specs.StandsEffects.{StandEffects}
use Rattle.rc_sheet_spec.specs.StandsItems.{StandAlts, StandsItem, StandItems}
use Rattle.rc_sheet_spec.specs.Stands.{StandsBest, StandsScoring}
use Rattle.rc_sheet_spec.specs.WellFormed.{Around, outside, scored, IsInt, IsTest, AreAlts, IsItem, AreItems}
use Rattle.rc_check.specs.Faults.{count}
use Rattle.rc_sheet.specs.ReadNames.{both}
use Rattle.rc_sheet.specs.ReadEffects.{effects_at, alts_at}
use Rattle.rc_sheet.specs.ReadItems.{Begun, none_begun, with_stage, with_site, stage_of, choice_of, end_at, item_at, item_rule, items_at, best_at, score_at, but_last, last_of, body_at}
use Rattle.rc_sheet.proofs.Means.{something}
use Rattle.rc_sheet.proofs.Mentioned.Stages.{IsRun, Counts}
use Rattle.rc_sheet.proofs.One.Rows.{behind_word, row_one, row_two, row_words, first_part}
use Rattle.rc_sheet.proofs.One.Names.{Differ, none_apart, one_apart, along, Only, only_map, only_both, only_pair, only_then, only_ensured, only_sized, by_rule}
use Rattle.rc_sheet.proofs.One.Expressions.{one_int, one_test}
use Rattle.rc_sheet.proofs.One.Effects.{one_effects, one_alt}
use Rattle.rc_check.specs.declared.grammar.Rule.TheVariants as rule

-- NUMBERS IN ORDER

-- numbers that are counted on, in two parts
run_parts : (before after : ℕ) (ns ms : List ℕ) → IsRun before (ns ++ ms) after
    → (between : ℕ) × IsRun before ns between × IsRun between ms after
run_parts before after [] ms is = (before, refl, is)
run_parts before after (n ∷ ns) ms is =
    let later = run_parts (before + 1) after ns ms is.1 in (later.0, (is.0, later.1), later.2)

-- the numbers from one on are counted on
run_from : (before : ℕ) (ns : List ℕ) (n : ℕ) → ns ≡ range_with_len before n → (after : ℕ) × IsRun before ns after
run_from before [] n is = (before, refl)
run_from before (x ∷ ns) zero is = absurd cc
run_from before (x ∷ ns) (suc n) is =
    let here : x ≡ before = cc in
    let later : ns ≡ range_with_len (before + 1) n = cc in
    let run = run_from (before + 1) ns n later in (run.0, (here, run.1))

-- what is counted in two parts
counts_parts : (before after : Begun) (stages sites stages' sites' : List ℕ)
    → Counts before (stages ++ stages') (sites ++ sites') after
    → (between : Begun) × Counts before stages sites between × Counts between stages' sites' after
counts_parts before after stages sites stages' sites' counts =
    let a = run_parts before.stages after.stages stages stages' counts.in_stages in
    let b = run_parts before.sites after.sites sites sites' counts.in_sites in (
      record { stages = a.0; sites = b.0 },
      record { in_stages = a.1; in_sites = b.1 },
      record { in_stages = a.2; in_sites = b.2 },
    )

-- where nothing new has begun
same_begun : (begun after : Begun) → Counts begun [] [] after → begun ≡ after
same_begun begun after counts = ap₂ (λ a b. record { stages = a; sites = b }) counts.in_stages counts.in_sites

-- the places around an item: whether a stage of players is, and one of teams
abbrev pub within_stages : Bool → Bool → Around
within_stages players teams = record outside { player_stage = players; team_stage = teams }

-- A sheet whose names differ, and a naming that a form is read by.
module _ (sheet : Sheet) (told : Naming) (differ : Differ sheet.names) where
  abbrev ItemIs : Begun → SheetItem → Begun → Tree → Type 0
  ItemIs begun i after tree = Only sheet told (i, after) (in_item i) (item_at (along sheet told) begun tree)

  -- an item that is read, and what has begun behind it
  abbrev Makes : SheetItem → Begun → List Mention → Option (SheetItem × Begun) → Type 0
  Makes i after ms found = Only sheet told (i, after) ms found

  abbrev ItemsAre : Begun → SheetItems → Begun → Trees → Type 0
  ItemsAre begun all after trees = Only sheet told (all, after) (in_items all) (items_at (along sheet told) begun trees)

  -- alternatives
  one_alts : (players teams : Bool) (all : List Alt) (trees : Trees) → StandAlts (sheet_naming sheet) all trees
      → AreAlts sheet (within_stages players teams) all
      → Only sheet told all (flat_map in_alt all) (alts_at (along sheet told) trees)
  one_alts players teams [] nil stands is = something [] (refl, tt)
  one_alts players teams [] (cons tree trees) stands is = absurd stands
  one_alts players teams (alt ∷ all) nil stands is = absurd stands
  one_alts players teams (alt ∷ all) (cons tree trees) stands is =
      only_pair sheet told ◌∷◌ alt all (in_alt alt) (flat_map in_alt all) _ _
      (one_alt sheet told differ (within_stages players teams) alt tree none_apart stands.0 is.0)
      (one_alts players teams all trees stands.1 is.1)

  -- `(end BOOL)`
  one_end : (players teams : Bool) (t : Test) (tree : Tree) → Row (Atom "end" ▸ StandsTest (sheet_naming sheet) [] t ▸ End) tree
      → IsTest sheet (within_stages players teams) t → Only sheet told t (in_test t) (end_at (along sheet told) tree)
  one_end players teams t tree stands is =
      row_one "end" (StandsTest (sheet_naming sheet) [] t)
      (λ tree. Only sheet told t (in_test t) (end_at (along sheet told) tree)) tree stands
      (λ f g from to x here. one_test sheet told differ (within_stages players teams) t x none_apart here is)

  -- a stage
  one_stage : (begun after : Begun) (number : ℕ) (class : Class) (end : Test) (body : SheetItems) (found : Option Test)
      (items : Option (SheetItems × Begun)) → number ≡ begun.stages → Only sheet told end (in_test end) found
      → Only sheet told (body, after) (in_items body) items
      → Only sheet told (stage number class end body, after) (in_test end ++ in_items body) (stage_of begun class found items)
  one_stage begun after number class end body found items same ends all =
      only_ensured sheet told (nat_lt begun.stages most_stages) _ (stage number class end body, after)
      (in_test end ++ in_items body)
      (λ room. subst
      (λ n. Makes (stage n class end body) after (in_test end ++ in_items body)
      (option_map (λ p. (stage begun.stages class p.0 p.1.0, p.1.1)) (both found items)))
      (sym same)
      (only_map sheet told (λ (p : Test × (SheetItems × Begun)). (stage begun.stages class p.0 p.1.0, p.1.1)) (end, (body, after))
      (in_test end ++ in_items body) (both found items)
      (only_both sheet told end (body, after) (in_test end) (in_items body) found items ends all)))

  -- a choice
  one_choice : (begun after : Begun) (site : ℕ) (alts : List Alt) (found : Option (List Alt))
      → Counts begun [] (site ∷ []) after → Only sheet told alts (flat_map in_alt alts) found
      → Only sheet told (choice site alts, after) (flat_map in_alt alts) (choice_of begun found)
  one_choice begun after site alts found counts one =
      only_ensured sheet told (nat_lt begun.sites most_sites) _ (choice site alts, after) (flat_map in_alt alts)
      (λ room. subst
      (λ (p : SheetItem × Begun). Makes p.0 p.1 (flat_map in_alt alts)
      (option_map (λ alts. (choice begun.sites alts, with_site begun)) found))
      (ap₂ (λ n b. (choice n alts, b)) (sym counts.in_sites.0)
      (ap₂ (λ a b. record { stages = a; sites = b }) counts.in_stages counts.in_sites.1))
      (only_map sheet told (λ alts. (choice begun.sites alts, with_site begun)) alts (flat_map in_alt alts) found one))

  mutual
    -- ITEM
    one_item : (players teams : Bool) (begun after : Begun) (i : SheetItem) (tree : Tree)
        → StandsItem (sheet_naming sheet) i tree → IsItem sheet (within_stages players teams) i
        → Counts begun (stages_in_item i) (sites_in_item i) after → ItemIs begun i after tree
    one_item players teams begun after (do_item effects) tree stands is counts =
        behind_word "do" (Full (StandEffects (sheet_naming sheet) [] effects)) (ItemIs begun (do_item effects) after) tree stands
        (λ f t from to es there. only_sized sheet told (count (cons (word (codes "do") f t) es)) rule.Do
        (λ rule. item_rule (along sheet told) begun rule (cons (word (codes "do") f t) es))
        (do_item effects, after) (in_effects effects)
        (subst (λ b. Makes (do_item effects) b (in_effects effects)
        (option_map (λ effects. (do_item effects, begun)) (effects_at (along sheet told) [] es)))
        (same_begun begun after counts)
        (only_map sheet told (λ effects. (do_item effects, begun)) effects (in_effects effects) _
        (one_effects sheet told differ (within_stages players teams) effects es none_apart there.1 is.1))))
    one_item players teams begun after (stage number game_class end body) tree stands is counts = absurd is
    one_item players teams begun after (stage number player_class end body) tree stands is counts =
        row_words "stage" "player"
        (Row (Atom "end" ▸ StandsTest (sheet_naming sheet) [] end ▸ End) ▸ Full (StandItems (sheet_naming sheet) body End))
        (ItemIs begun (stage number player_class end body) after) tree stands
        (λ f t f' t' from to parts more. first_part (Row (Atom "end" ▸ StandsTest (sheet_naming sheet) [] end ▸ End))
        (Full (StandItems (sheet_naming sheet) body End))
        (λ l. ItemIs begun (stage number player_class end body) after
        (list (cons (word (codes "stage") f t) (cons (word (codes "player") f' t') l)) from to)) parts more
        (λ e is' here there. only_sized sheet told
        (count (cons (word (codes "stage") f t) (cons (word (codes "player") f' t') (cons e is')))) rule.PlayerStage
        (λ rule. item_rule (along sheet told) begun rule
        (cons (word (codes "stage") f t) (cons (word (codes "player") f' t') (cons e is'))))
        (stage number player_class end body, after) (in_test end ++ in_items body)
        (one_stage begun after number player_class end body _ _ counts.in_stages.0
        (one_end true teams end e here is.0)
        (one_items true teams (with_stage begun) after body is' there.1 is.2
        (record { in_stages = counts.in_stages.1; in_sites = counts.in_sites })))))
    one_item players teams begun after (stage number team_class end body) tree stands is counts =
        row_words "stage" "team"
        (Row (Atom "end" ▸ StandsTest (sheet_naming sheet) [] end ▸ End) ▸ Full (StandItems (sheet_naming sheet) body End))
        (ItemIs begun (stage number team_class end body) after) tree stands
        (λ f t f' t' from to parts more. first_part (Row (Atom "end" ▸ StandsTest (sheet_naming sheet) [] end ▸ End))
        (Full (StandItems (sheet_naming sheet) body End))
        (λ l. ItemIs begun (stage number team_class end body) after
        (list (cons (word (codes "stage") f t) (cons (word (codes "team") f' t') l)) from to)) parts more
        (λ e is' here there. only_sized sheet told
        (count (cons (word (codes "stage") f t) (cons (word (codes "team") f' t') (cons e is')))) rule.TeamStage
        (λ rule. item_rule (along sheet told) begun rule
        (cons (word (codes "stage") f t) (cons (word (codes "team") f' t') (cons e is'))))
        (stage number team_class end body, after) (in_test end ++ in_items body)
        (one_stage begun after number team_class end body _ _ counts.in_stages.0
        (one_end players true end e here is.0)
        (one_items players true (with_stage begun) after body is' there.1 is.2
        (record { in_stages = counts.in_stages.1; in_sites = counts.in_sites })))))
    one_item players teams begun after (choice site alts) tree stands is counts =
        behind_word "choice" (Full (StandAlts (sheet_naming sheet) alts)) (ItemIs begun (choice site alts) after) tree stands
        (λ f t from to as' there. only_sized sheet told (count (cons (word (codes "choice") f t) as')) rule.Choice
        (λ rule. item_rule (along sheet told) begun rule (cons (word (codes "choice") f t) as'))
        (choice site alts, after) (flat_map in_alt alts)
        (one_choice begun after site alts _ counts (one_alts players teams alts as' there.1 is.2)))

    one_items : (players teams : Bool) (begun after : Begun) (all : SheetItems) (trees : Trees)
        → StandItems (sheet_naming sheet) all End trees → AreItems sheet (within_stages players teams) all
        → Counts begun (stages_in all) (sites_in all) after → ItemsAre begun all after trees
    one_items players teams begun after no_item nil stands is counts =
        something (no_item, begun) (ap (λ b. (no_item, b)) (same_begun begun after counts), tt)
    one_items players teams begun after no_item (cons tree trees) stands is counts = absurd stands
    one_items players teams begun after (item i all) nil stands is counts = absurd stands
    one_items players teams begun after (item i all) (cons tree trees) stands is counts =
        let parts = counts_parts begun after (stages_in_item i) (sites_in_item i) (stages_in all) (sites_in all) counts in
        only_then sheet told _ (i, parts.0) (item i all, after) (in_item i) (in_items all)
        (item_at (along sheet told) begun tree)
        (one_item players teams begun parts.0 i tree stands.0 is.0 parts.1)
        (only_map sheet told (λ (later : SheetItems × Begun). (item i later.0, later.1)) (all, after) (in_items all) _
        (one_items players teams parts.0 after all trees stands.1 is.1 parts.2))

  -- BEST
  one_best : (best : Best) (tree : Tree) → StandsBest best tree → Only sheet told best [] (best_at tree)
  one_best highest (word bytes from to) stands =
      subst (λ b. Only sheet told highest [] (best_at (word b from to))) (sym stands) (something highest (refl, tt))
  one_best lowest (word bytes from to) stands =
      subst (λ b. Only sheet told lowest [] (best_at (word b from to))) (sym stands) (something lowest (refl, tt))
  one_best highest (list parts from to) stands = absurd stands
  one_best lowest (list parts from to) stands = absurd stands

  -- `(scoring BEST INT)`
  one_score : (tree : Tree) → StandsScoring sheet tree → IsInt sheet scored sheet.score
      → Only sheet told (sheet.best, sheet.score) (in_int sheet.score) (score_at (along sheet told) tree)
  one_score tree stands is =
      row_two "scoring" (StandsBest sheet.best) (StandsInt (sheet_naming sheet) self_scope sheet.score)
      (λ tree. Only sheet told (sheet.best, sheet.score) (in_int sheet.score) (score_at (along sheet told) tree)) tree stands
      (λ f t from to b v here there. only_both sheet told sheet.best sheet.score [] (in_int sheet.score) _ _
      (one_best sheet.best b here) (one_int sheet told differ scored sheet.score v (one_apart _) there is).0)

  -- the items before the last part, and what stands last
  items_apart : (Last : Tree → Type 0) (all : SheetItems) (trees : Trees)
      → StandItems (sheet_naming sheet) all (Last ▸ End) trees
      → StandItems (sheet_naming sheet) all End (but_last trees) × (last : Tree) × (last_of trees ≡ Some last) × Last last
  items_apart Last no_item nil stands = absurd stands
  items_apart Last no_item (cons tree nil) stands = (tt, tree, refl, stands.0)
  items_apart Last no_item (cons tree (cons next trees)) stands = absurd stands.1
  items_apart Last (item i all) nil stands = absurd stands
  items_apart Last (item i all) (cons tree nil) stands = absurd (none_left all stands.1)
    where
      none_left : (all : SheetItems) → StandItems (sheet_naming sheet) all (Last ▸ End) nil → ⊥
      none_left no_item stands = stands
      none_left (item i all) stands = stands
  items_apart Last (item i all) (cons tree (cons next trees)) stands =
      let later = items_apart Last all (cons next trees) stands.1 in ((stands.0, later.0), later.1, later.2, later.3)

  -- the body of a sheet
  pub one_body : (trees : Trees) → AtLeast 2 (StandItems (sheet_naming sheet) sheet.items (StandsScoring sheet ▸ End)) trees
      → AreItems sheet outside sheet.items → IsInt sheet scored sheet.score
      → stages_in sheet.items ≡ below (length (stages_in sheet.items))
      → sites_in sheet.items ≡ below (length (sites_in sheet.items))
      → Only sheet told (sheet.items, (sheet.best, sheet.score)) (in_items sheet.items ++ in_int sheet.score)
      (body_at (along sheet told) trees)
  one_body trees stands items score stages sites =
      let apart = items_apart (StandsScoring sheet) sheet.items trees stands.1 in
      let a = run_from 0 (stages_in sheet.items) (length (stages_in sheet.items)) stages in
      let b = run_from 0 (sites_in sheet.items) (length (sites_in sheet.items)) sites in
      let after : Begun = record { stages = a.0; sites = b.0 } in
      let counts : Counts none_begun (stages_in sheet.items) (sites_in sheet.items) after =
      record { in_stages = a.1; in_sites = b.1 } in
      only_ensured sheet told (nat_le 2 (count trees)) _ (sheet.items, (sheet.best, sheet.score))
      (in_items sheet.items ++ in_int sheet.score)
      (λ two. only_both sheet told sheet.items (sheet.best, sheet.score) (in_items sheet.items) (in_int sheet.score) _ _
      (only_map sheet told (λ (p : SheetItems × Begun). p.0) (sheet.items, after) (in_items sheet.items) _
      (one_items false false none_begun after sheet.items (but_last trees) apart.0 items counts))
      (by_rule sheet told apart.1 (score_at (along sheet told)) (sheet.best, sheet.score) (in_int sheet.score) (last_of trees)
      apart.2 (one_score apart.1 apart.3 score)))
