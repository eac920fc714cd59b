-- The lines of a setup that stand for a well formed sheet's have no fault by themselves.
use Rattle.std.proofs.Common.{◌≡◌, ℕ, suc, Bool, true, false, not, ◌||◌, cond, List, [], ◌∷◌, ◌++◌, inl, inr, Option, Some, None, option_map, slice_get, pos, refl, sym, subst, ap, ◌∙◌, arith}
use Rattle.std.specs.Prelude.{codes}
use Rattle.std.specs.List.{AllByRecursion, AllZip}
use Rattle.std.proofs.lemmas.Bool.{and_parts, or_from}
use Rattle.std.proofs.lemmas.List.Elements.{recursion_from_All}
use Rattle.rc_base.specs.Tree.{Tree, word, list, Trees, nil, cons, start_of}
use Rattle.rc_base.specs.Deck.{Entry}
use Rattle.rc_sheet_spec.specs.Sheet.{Teams, game, Loc, DeckLine, Sheet}
use Rattle.rc_sheet_spec.specs.Rows.{◌▸◌, End, Row, Atom}
use Rattle.rc_sheet_spec.specs.Rows.{Some as Full}
use Rattle.rc_sheet_spec.specs.Naming.{class_of, Named, Literal, KindOf, sheet_naming}
use Rattle.rc_sheet_spec.specs.StandsSetup.{StandsPlayers, StandsTeam, StandTeams, StandsTeams, StandsGroups, StandsDeck, StandEntries, StandsMap, begins_with, lines_with, are_lines, team_lines, numbered, StandsSetup}
use Rattle.rc_sheet_spec.specs.WellFormed.{outside, is_mem, IsDeck, IsWellFormed}
use Rattle.rc_check.specs.declared.grammar.Symbol.TheVariants as symbol
use Rattle.rc_check.specs.declared.grammar.Rule.TheVariants as rule
use Rattle.rc_check.specs.declared.role.Role.TheVariants.{No as no_role, DeckLocation as deck_location}
use Rattle.rc_check.specs.SecondParts.{Part, parts_at}
use Rattle.rc_check.specs.SecondFaults.{leaves_out, is_game}
use Rattle.rc_check.proofs.Above.{none_before}
use Rattle.rc_sheet.proofs.Among.{Among, one_of_all}
use Rattle.rc_sheet.proofs.GoodParts.{Each}
use Rattle.rc_sheet.proofs.One.Rows.{behind_word, row_words, row_word_part, two_parts}
use Rattle.rc_sheet.proofs.One.Names.{Alone, none_apart, loc_rule_alone}
use Rattle.rc_sheet.proofs.Sound.Parts.{standing, all_join, AllSound, Sound, sound_alone, plain_atom, list_sound, sound_list, rest_sound}
use Rattle.rc_sheet.proofs.Shaped.Setup.{one_of_four}
use Rattle.rc_sheet.proofs.Sound.Names.{fixed, Takes, loc_sound}
use Rattle.rc_sheet.proofs.Sound.Effects.{mem_told}
use Rattle.rc_sheet.proofs.Sound.Faces.{Worded, worded_none, literal_sound, groups_sound, entries_sound}

-- EACH LINE

-- what holds of a tree where it is taken, and of those behind it
taken : (P : Tree → Type 0) (b : Bool) (tree : Tree) (rest : List Tree) → AllByRecursion P (cond b (tree ∷ rest) rest)
    → (b ≡ true → P tree) × AllByRecursion P rest
taken P true tree rest each = (λ is. each.0, each.1)
taken P false tree rest each = (λ is. absurd cc, each)

-- what holds of the lines of each kind holds of each line
pub each_line : (P : Tree → Type 0) (lines : Trees) → are_lines lines ≡ true
    → AllByRecursion P (lines_with "create" "players" lines) → AllByRecursion P (lines_with "create" "teams" lines)
    → AllByRecursion P (lines_with "create" "deck" lines) → AllByRecursion P (lines_with "put" "points" lines) → Each P lines
each_line P nil is players teams decks points = tt
each_line P (cons tree lines) is players teams decks points =
    let a = begins_with "create" "players" tree in
    let b = begins_with "create" "teams" tree in
    let c = begins_with "create" "deck" tree in
    let d = begins_with "put" "points" tree in
    let both = and_parts (a || b || c || d) (are_lines lines) is in
    let first = taken P a tree (lines_with "create" "players" lines) players in
    let second = taken P b tree (lines_with "create" "teams" lines) teams in
    let third = taken P c tree (lines_with "create" "deck" lines) decks in
    let fourth = taken P d tree (lines_with "put" "points" lines) points in (
      one_of_four a b c d both.0 first.0 second.0 third.0 fourth.0,
      each_line P lines both.1 first.1 second.1 third.1 fourth.1,
    )

-- what holds of each second one that is paired with a first one
pub of_pairs : {A B : Type 0} (R : A → B → Type 0) (P : B → Type 0) (xs : List A) (ys : List B) → AllZip R xs ys
    → ((x : A) (y : B) → Among x xs → R x y → P y) → AllByRecursion P ys
of_pairs R P [] [] pairs each = tt
of_pairs R P [] (y ∷ ys) pairs each = absurd pairs
of_pairs R P (x ∷ xs) [] pairs each = absurd pairs
of_pairs R P (x ∷ xs) (y ∷ ys) pairs each =
    (each x y (inl refl) pairs.0, of_pairs R P xs ys pairs.1 (λ a b is related. each a b (inr is) related))

-- the teams of a line are those of the sheet
pub team_line_is : (found : Option Teams) (teams : Teams) → Among teams (team_lines found) → found ≡ Some teams
team_line_is None teams is = absurd is
team_line_is (Some these) teams (inl same) = ap Some (sym same)
team_line_is (Some these) teams (inr none) = absurd none

-- A sheet, and all parts of a form.
module _ (sheet : Sheet) (all : List Part) where
  abbrev pub LineSound : Tree → Type 0
  LineSound tree =
      (beside : Trees) → AllSound sheet all (parts_at (Some (standing symbol.Line outside no_role beside [])) tree)

  -- `(create players n)`
  players_line : (n : ℕ) (tree : Tree) → StandsPlayers n tree → LineSound tree
  players_line n tree stands =
      row_word_part "create" "players" (Literal (pos n)) LineSound tree stands
      (λ f t f' t' from to a here beside.
      let whole = cons (word (codes "create") f t) (cons (word (codes "players") f' t') (cons a nil)) in
      list_sound sheet all (standing symbol.Line outside no_role beside []) rule.CreatePlayers whole from to refl
      (record { once = refl; known = refl; kind_fits = refl; shallow = refl; said = tt }) (
        fixed sheet all _ _ _ _ _ _,
        (
          fixed sheet all _ _ _ _ _ _,
          all_join sheet all _ []
              (sound_alone sheet all symbol.PlayerCount outside a whole []
              (literal_sound sheet all symbol.PlayerCount outside (pos n) a refl here)) tt,
        ),
      ))

  -- `(create teams (p+)+)`
  members_sound : (team : List ℕ) (trees : Trees) → StandsTeam team trees → Each (Sound sheet all symbol.Member outside) trees
  members_sound [] nil stands = tt
  members_sound [] (cons tree trees) stands = absurd stands
  members_sound (player ∷ team) nil stands = absurd stands
  members_sound (player ∷ team) (cons tree trees) stands =
      (literal_sound sheet all symbol.Member outside (pos player) tree refl stands.0, members_sound team trees stands.1)

  team_sound : (team : List ℕ) (tree : Tree) → Row (Full (StandsTeam team)) tree → Sound sheet all symbol.Team outside tree
  team_sound team (word bytes from to) stands = absurd stands
  team_sound team (list nil from to) stands = let none = stands.0 in absurd cc
  team_sound team (list (cons first others) from to) stands =
      sound_list sheet all symbol.Team rule.Team outside (cons first others) from to refl
      (λ p r b above from plain. record { once = refl; known = refl; kind_fits = plain.other; shallow = refl; said = tt })
      (λ p r b above. rest_sound sheet all (λ k. k) (λ k. omega arith) (standing p outside r b above) rule.Team
      (cons first others)
      symbol.Member outside (above ++ []) (λ k. refl) 0 (cons first others) (members_sound team (cons first others) stands.1))

  teams_sound : (teams : Teams) (trees : Trees) → StandTeams teams trees → Each (Sound sheet all symbol.Team outside) trees
  teams_sound [] nil stands = tt
  teams_sound [] (cons tree trees) stands = absurd stands
  teams_sound (team ∷ teams) nil stands = absurd stands
  teams_sound (team ∷ teams) (cons tree trees) stands =
      (team_sound team tree stands.0, teams_sound teams trees stands.1)

  -- no player is left out of the teams of a line
  abbrev pub NoneLeft : Teams → Type 0
  NoneLeft teams =
      (f t f' t' : ℕ) (parts : Trees) → StandTeams teams parts
      → leaves_out all (cons (word (codes "create") f t) (cons (word (codes "teams") f' t') parts)) ≡ false

  teams_line : (teams : Teams) (tree : Tree) → NoneLeft teams → StandsTeams teams tree → LineSound tree
  teams_line teams tree none stands =
      row_words "create" "teams" (Full (StandTeams teams)) LineSound tree stands
      (λ f t f' t' from to parts more beside.
      let whole = cons (word (codes "create") f t) (cons (word (codes "teams") f' t') parts) in
      let at = standing symbol.Line outside no_role beside [] in
      list_sound sheet all at rule.CreateTeams whole from to refl
      (record { once = refl; known = none f t f' t' parts more.1; kind_fits = refl; shallow = refl; said = tt }) (
        fixed sheet all _ _ _ _ _ _,
        (
          fixed sheet all _ _ _ _ _ _,
          rest_sound sheet all (λ k. suc (suc k)) (λ k. omega arith) at rule.CreateTeams whole
              symbol.Team outside [] (λ k. refl) 0 parts (teams_sound teams parts more.1),
        ),
      ))

  -- `(create deck LOC (deck GROUP+))`
  takes_deck : (loc : Loc) (line : DeckLine) → loc.name ≡ line.loc → loc.who ≡ game → IsDeck sheet line
      → Takes sheet all deck_location loc
  takes_deck loc line name who is mention kind class =
      or_from _ _
      (ap (λ c. not (is_game c)) (class ∙ ap class_of who))
      (mem_told (slice_get sheet.locs loc.name) mention.kind false kind
      (ap (λ n. option_map (λ l. is_mem l.kind) (slice_get sheet.locs n)) name ∙ is.3))

  deck_tree : Alone sheet.names.attrs → (line : DeckLine) (whole : Trees) (d : Tree) → IsDeck sheet line
      → Row (Atom "deck" ▸ Full (StandsGroups (sheet_naming sheet) line.groups)) d
      → AllSound sheet all (parts_at (Some (standing symbol.Deck outside no_role whole [])) d)
  deck_tree alone line whole d is row =
      behind_word "deck" (Full (StandsGroups (sheet_naming sheet) line.groups))
      (λ d. AllSound sheet all (parts_at (Some (standing symbol.Deck outside no_role whole [])) d)) d row
      (λ f t from to groups more.
      let parts = cons (word (codes "deck") f t) groups in
      let at = standing symbol.Deck outside no_role whole [] in
      list_sound sheet all at rule.Deck parts from to refl
      (record { once = refl; known = refl; kind_fits = refl; shallow = refl; said = tt }) (
        fixed sheet all _ _ _ _ _ _,
        groups_sound sheet all alone [] line.groups at rule.Deck parts 0 groups (λ k. refl) refl
            (subst (Worded sheet.names.attrs []) (sym (none_before groups)) (worded_none sheet.names.attrs [])) more.1 is.1,
      ))

  deck_line : Alone sheet.names.attrs → (line : DeckLine) (tree : Tree) → IsDeck sheet line
      → StandsDeck (sheet_naming sheet) line tree
      → LineSound tree
  deck_line alone line tree is stands =
      row_words "create" "deck"
      (Row (Atom "game" ▸ KindOf (sheet_naming sheet) line.loc ▸ Named sheet.names.locs line.loc ▸ End)
      ▸ Row (Atom "deck" ▸ Full (StandsGroups (sheet_naming sheet) line.groups)) ▸ End) LineSound tree stands.0
      (λ f t f' t' from to parts more. two_parts
      (Row (Atom "game" ▸ KindOf (sheet_naming sheet) line.loc ▸ Named sheet.names.locs line.loc ▸ End))
      (Row (Atom "deck" ▸ Full (StandsGroups (sheet_naming sheet) line.groups)))
      (λ l. LineSound (list (cons (word (codes "create") f t) (cons (word (codes "deck") f' t') l)) from to)) parts more
      (λ l d here there beside.
      let whole = cons (word (codes "create") f t) (cons (word (codes "deck") f' t') (cons l (cons d nil))) in
      let loc : Loc = record { who = game; name = line.loc; at = start_of l } in
      list_sound sheet all (standing symbol.Line outside no_role beside []) rule.CreateDeck whole from to refl
      (record { once = refl; known = refl; kind_fits = refl; shallow = refl; said = tt }) (
        fixed sheet all _ _ _ _ _ _,
        (
          fixed sheet all _ _ _ _ _ _,
          all_join sheet all _ _
              (loc_sound sheet all symbol.Location outside loc l deck_location whole [] loc_rule_alone none_apart refl
              (takes_deck loc line refl refl is) (here, is.2, refl) tt)
              (all_join sheet all _ [] (deck_tree alone line whole d is there) tt),
        ),
      )))

  -- `(put points MAP (ENTRY+))`
  map_line : (line : ℕ × List Entry) (tree : Tree) → StandsMap (sheet_naming sheet) line tree → LineSound tree
  map_line line tree stands =
      row_words "put" "points"
      (Named sheet.names.maps line.0 ▸ Row (Full (StandEntries (sheet_naming sheet) line.1)) ▸ End) LineSound tree stands
      (λ f t f' t' from to parts more. two_parts (Named sheet.names.maps line.0)
      (Row (Full (StandEntries (sheet_naming sheet) line.1)))
      (λ l. LineSound (list (cons (word (codes "put") f t) (cons (word (codes "points") f' t') l)) from to)) parts more
      (λ m e named row. made f t f' t' from to m e named row))
    where
      made : (f t f' t' from to : ℕ) (m e : Tree) → Named sheet.names.maps line.0 m
          → Row (Full (StandEntries (sheet_naming sheet) line.1)) e
          → LineSound (list (cons (word (codes "put") f t) (cons (word (codes "points") f' t') (cons m (cons e nil)))) from to)
      made f t f' t' from to (list inner a b) e named row = absurd named
      made f t f' t' from to (word bytes a b) (word w c d) named row = absurd row
      made f t f' t' from to (word bytes a b) (list nil c d) named row = let none = row.0 in absurd cc
      made f t f' t' from to (word bytes a b) (list (cons first others) c d) named row =
          λ beside.
          let entries = cons first others in
          let whole = cons (word (codes "put") f t)
          (cons (word (codes "points") f' t') (cons (word bytes a b) (cons (list entries c d) nil))) in
          let at = standing symbol.Entries outside no_role whole [] in
          list_sound sheet all (standing symbol.Line outside no_role beside []) rule.PutPoints whole from to refl
          (record { once = refl; known = refl; kind_fits = refl; shallow = refl; said = tt }) (
            fixed sheet all _ _ _ _ _ _,
            (
              fixed sheet all _ _ _ _ _ _,
              (
                plain_atom sheet all (standing symbol.Name outside no_role whole []) bytes a refl refl refl,
                all_join sheet all (parts_at (Some at) (list entries c d)) []
                    (list_sound sheet all at rule.Entries entries c d refl
                    (record { once = refl; known = refl; kind_fits = refl; shallow = refl; said = tt })
                    (rest_sound sheet all (λ k. k) (λ k. omega arith) at rule.Entries entries symbol.Entry outside [] (λ k. refl)
                    0 entries
                    (entries_sound sheet all outside line.1 entries row.1))) tt,
              ),
            ),
          )

  -- THE SETUP
  pub setup_lines_sound : (lines : Trees) → Alone sheet.names.attrs
      → ((teams : Teams) → sheet.teams ≡ Some teams → NoneLeft teams)
      → StandsSetup (sheet_naming sheet) sheet lines → IsWellFormed sheet → Each LineSound lines
  setup_lines_sound lines alone none setup well =
      each_line LineSound lines setup.lines_alone
      (of_pairs StandsPlayers LineSound (sheet.players ∷ []) _ setup.players (λ n tree is stands. players_line n tree stands))
      (of_pairs StandsTeams LineSound (team_lines sheet.teams) _ setup.teams
      (λ teams tree is stands. teams_line teams tree (none teams (team_line_is sheet.teams teams is)) stands))
      (of_pairs (StandsDeck (sheet_naming sheet)) LineSound sheet.decks _ setup.decks
      (λ line tree is stands. deck_line alone line tree
      (one_of_all (IsDeck sheet) line sheet.decks (recursion_from_All (IsDeck sheet) sheet.decks well.decks) is) stands))
      (of_pairs (StandsMap (sheet_naming sheet)) LineSound (numbered sheet.points) _ setup.points
      (λ line tree is stands. map_line line tree stands))
