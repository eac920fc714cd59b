-- What is read stands for its form: the setup of a sheet.
use Prim.Native.String.{String}
use Rattle.std.proofs.Common.{◌≡◌, ℕ, ◌+◌, Bool, true, false, cond, ◌&&◌, ◌||◌, ◌==◌, nat_le, List, [], ◌∷◌, ◌++◌, length, ℤ, pos, negsuc, Option, Some, None, is_none, option_to_list, bytes_eq, refl, sym, subst, ap, ap₂, ◌∙◌, arith, eqb-true, append_assoc}
use Rattle.std.specs.Prelude.{codes}
use Rattle.std.specs.List.{AllZip, zip, range_with_len}
use Rattle.std.proofs.lemmas.List.{append-nil}
use Rattle.rc_base.specs.Tree.{Tree, word, list, Trees, nil, cons, count}
use Rattle.rc_base.specs.Literal.{integer}
use Rattle.rc_sheet_spec.specs.Sheet.{Teams, Sheet, game_class, Who, game}
use Rattle.rc_base.specs.Limits.{most_players}
use Rattle.rc_deck.proofs.EachLemmas.{zip_push}
use Rattle.rc_sheet_spec.specs.Rows.{◌▸◌, End, Row, Word, Atom}
use Rattle.rc_sheet_spec.specs.Rows.{Some as Full}
use Rattle.rc_sheet_spec.specs.Naming.{Naming, class_of, Named, Literal, KindOf, loc_class}
use Rattle.rc_sheet_spec.specs.StandsExpressions.{StandsHolder}
use Rattle.rc_sheet_spec.specs.StandsSetup.{StandsPlayers, StandsTeam, StandTeams, StandsTeams, StandsGroups, StandsDeck, StandEntries, StandsMap, begins_with, lines_with, are_lines, team_lines, numbered, StandsSetup}
use Rattle.rc_check.specs.Keyword.{text_of}
use Rattle.rc_resolve.specs.Reading.{read_deck, read_entries}
use Rattle.rc_sheet.specs.ReadNames.{ensure, rule_at, name_at, loc_at}
use Rattle.rc_sheet.specs.ReadSetup.{Setup, Lines, no_line, within, count_at, members_at, team_rule, team_at, teams_at, face_words, home_of, deck_at, points_at, players_line, teams_line, deck_line, points_line, line_rule, line_at, lines_at, setup_of, setup_at, setup_in}
use Rattle.rc_sheet.proofs.Means.{Means, nothing, something, means_if, weaker, behind, either, ensured, paired}
use Rattle.rc_sheet.proofs.ReadOff.Names.{Told, told_at, name_means, loc_means}
use Rattle.rc_sheet.proofs.ReadOff.Faces.{some_part, deck_tree_means, entries_mean}
use Rattle.rc_check.specs.declared.keyword.Keyword.{Keyword}
use Rattle.rc_check.specs.declared.keyword.Keyword.TheVariants as keyword
use Rattle.rc_check.specs.declared.grammar.Symbol.TheVariants as symbol
use Rattle.rc_check.specs.declared.grammar.Rule.{Rule}
use Rattle.rc_check.specs.declared.grammar.Rule.TheVariants as rule

-- a number in a range
within_means : (least most : ℕ) (found : Option ℤ) (z : ℤ) → found ≡ Some z
    → Means (within least most z) (λ n. found ≡ Some (pos n))
within_means least most found (pos n) is = either _ (Some n) None (λ fits. something n is) (λ fits. nothing)
within_means least most found (negsuc n) is = nothing

-- a literal of one
count_means : (least most : ℕ) (tree : Tree) → Means (count_at least most tree) (λ n. Literal (pos n) tree)
unfolding count_at
count_means least most (word bytes from to) =
    behind (integer bytes) (within least most) (means_if (integer bytes) (λ z is. is))
    (λ z is. within_means least most (integer bytes) z is)
count_means least most (list parts from to) = nothing

-- p ..
members_mean : (parts : Trees) → Means (members_at parts) (λ team. StandsTeam team parts)
members_mean nil = something [] tt
members_mean (cons part parts) =
    paired (count_at 0 7 part) (members_at parts) ◌∷◌ (count_means 0 7 part) (members_mean parts)
    (λ player players is stand. (is, stand))

-- `(p+)`, by its rule
team_rule_means : (rule : Rule) (parts : Trees) → Told rule parts
    → Means (team_rule rule parts) (λ team. Full (StandsTeam team) parts)
team_rule_means rule.Team nil told = absurd told
team_rule_means rule.Team (cons part parts) told =
    weaker (members_at (cons part parts)) (members_mean (cons part parts)) (λ team stand. (some_part part parts, stand))
team_rule_means rule parts told = nothing

-- TEAM
team_means : (tree : Tree) → Means (team_at tree) (λ team. Row (Full (StandsTeam team)) tree)
unfolding team_at
team_means (word bytes from to) = nothing
team_means (list parts from to) =
    behind (rule_at symbol.Team parts) (λ rule. team_rule rule parts) (told_at symbol.Team parts)
    (λ rule told. team_rule_means rule parts told)

-- TEAM ..
teams_mean : (parts : Trees) → Means (teams_at parts) (λ teams. StandTeams teams parts)
teams_mean nil = something [] tt
teams_mean (cons part parts) =
    paired (team_at part) (teams_at parts) ◌∷◌ (team_means part) (teams_mean parts) (λ team teams stands stand. (stands, stand))

-- `(game KIND NAME)`
abbrev StandsHome : Naming → ℕ → Tree → Type 0
StandsHome naming name tree =
    Row (Atom "game" ▸ KindOf naming name ▸ Named naming.names.locs name ▸ End) tree × (loc_class naming name ≡ Some game_class)

-- a location is the game's
home_means : (naming : Naming) (who : Who) (name : ℕ) (tree : Tree)
    → Row (StandsHolder [] who ▸ KindOf naming name ▸ Named naming.names.locs name ▸ End) tree
    → loc_class naming name ≡ Some (class_of who) → Means (home_of who name) (λ number. StandsHome naming number tree)
home_means naming game name tree stands class = something name (stands, class)
home_means naming who name tree stands class = nothing

-- LOC and `(deck GROUP+)`
deck_means : (naming : Naming) (loc deck : Tree)
    → Means (deck_at naming loc deck)
    (λ line. StandsHome naming line.loc loc × Row (Atom "deck" ▸ Full (StandsGroups naming line.groups)) deck)
unfolding deck_at
deck_means naming loc deck =
    behind (loc_at naming [] loc) _ (loc_means naming [] loc)
    (λ home stands. behind (home_of home.who home.name) _ (home_means naming home.who home.name loc stands.0 stands.1)
    (λ number at. behind (read_deck (face_words naming) deck) _ (deck_tree_means naming deck)
    (λ groups tree. something (record { loc = number; groups = groups }) (at, tree))))

-- MAP and `(ENTRY+)`
map_means : (naming : Naming) (number : ℕ) (map entries : Tree)
    → Means (points_at naming number map entries)
    (λ all. Named naming.names.maps number map × Row (Full (StandEntries naming all)) entries)
unfolding points_at
map_means naming number map entries =
    behind (name_at naming.names.maps map) _ (name_means naming.names.maps map)
    (λ found named. behind (ensure (found == number)) _ (ensured (found == number))
    (λ u same. weaker (read_entries (face_words naming) entries) (entries_mean naming entries)
    (λ all stand. (subst (λ n. Named naming.names.maps n map) (eqb-true found number same) named, stand))))

-- None is listed where there is none.
pub none_listed : {A : Type 0} (found : Option A) → is_none found ≡ true → option_to_list found ≡ []
none_listed None is = refl
none_listed (Some a) is = absurd cc

-- the teams of a sheet
teams_listed : (teams : Option Teams) → option_to_list teams ≡ team_lines teams
teams_listed None = refl
teams_listed (Some teams) = refl

-- What lines say stands for these lines of each of the four kinds.
record Stand (naming : Naming) (said : Lines) (players teams decks points : List Tree) : Type 0 where
  of_players : AllZip StandsPlayers (option_to_list said.players) players
  of_teams : AllZip StandsTeams (option_to_list said.teams) teams
  of_decks : AllZip (StandsDeck naming) said.decks decks
  of_points : AllZip (StandsMap naming) (numbered said.points) points

-- the first of a kind
first_one : {A B : Type 0} (R : A → B → Type 0) (found : Option A) (bs : List B) (a : A) (b : B) → is_none found ≡ true
    → AllZip R (option_to_list found) bs → R a b → AllZip R (a ∷ []) (bs ++ b ∷ [])
first_one R found bs a b is all here =
    zip_push R [] bs a b (subst (λ as'. AllZip R as' bs) (none_listed found is) all) here

-- numbers of a list with one more item
numbered_from : {A : Type 0} (start : ℕ) (all : List A) (a : A)
    → zip (range_with_len start (length (all ++ a ∷ []))) (all ++ a ∷ [])
    ≡ zip (range_with_len start (length all)) all ++ (start + length all, a) ∷ []
numbered_from start [] a = ap (λ (n : ℕ). (n, a) ∷ []) (omega arith)
numbered_from start (x ∷ all) a =
    ap (λ rest. (start, x) ∷ rest) (numbered_from (start + 1) all a
    ∙ ap (λ (n : ℕ). zip (range_with_len (start + 1) (length all)) all ++ (n, a) ∷ []) (omega arith))

-- one more item has the next number
numbered_more : {A : Type 0} (all : List A) (a : A) → numbered (all ++ a ∷ []) ≡ numbered all ++ (length all, a) ∷ []
numbered_more all a = numbered_from 0 all a ∙ ap (λ (n : ℕ). numbered all ++ (n, a) ∷ []) (omega arith)

-- lines of one kind, behind one line more
abbrev then : List Tree → Bool → Tree → List Tree
then lines told line = cond told (lines ++ line ∷ []) lines

-- the first two words of a line
told_words : (first second : String) (a b : List ℕ) (head next : Tree) (parts : Trees) (from to : ℕ)
    → Word (λ bytes. bytes ≡ a) head → Word (λ bytes. bytes ≡ b) next
    → begins_with first second (list (cons head (cons next parts)) from to)
    ≡ (bytes_eq a (codes first) && bytes_eq b (codes second))
told_words first second a b (word bytes f t) (word bytes' f' t') parts from to is is' =
    ap₂ (λ x y. bytes_eq x (codes first) && bytes_eq y (codes second)) is is'
told_words first second a b (list inner f t) next parts from to is is' = absurd is
told_words first second a b (word bytes f t) (list inner f' t') parts from to is is' = absurd is'

-- a line begins as one of the four
abbrev is_line : Tree → Bool
is_line tree =
    begins_with "create" "players" tree || begins_with "create" "teams" tree
    || begins_with "create" "deck" tree || begins_with "put" "points" tree

-- how a line begins
record Kinds (line : Tree) (players teams decks points : Bool) : Type 0 where
  k_players : begins_with "create" "players" line ≡ players
  k_teams : begins_with "create" "teams" line ≡ teams
  k_decks : begins_with "create" "deck" line ≡ decks
  k_points : begins_with "put" "points" line ≡ points

-- by its first two words
kinds : (a b : Keyword) (head next : Tree) (parts : Trees) (from to : ℕ)
    → Word (λ bytes. bytes ≡ text_of a) head → Word (λ bytes. bytes ≡ text_of b) next
    → Kinds (list (cons head (cons next parts)) from to)
    (bytes_eq (text_of a) (codes "create") && bytes_eq (text_of b) (codes "players"))
    (bytes_eq (text_of a) (codes "create") && bytes_eq (text_of b) (codes "teams"))
    (bytes_eq (text_of a) (codes "create") && bytes_eq (text_of b) (codes "deck"))
    (bytes_eq (text_of a) (codes "put") && bytes_eq (text_of b) (codes "points"))
kinds a b head next parts from to is is' =
    record {
      k_players = told_words "create" "players" (text_of a) (text_of b) head next parts from to is is';
      k_teams = told_words "create" "teams" (text_of a) (text_of b) head next parts from to is is';
      k_decks = told_words "create" "deck" (text_of a) (text_of b) head next parts from to is is';
      k_points = told_words "put" "points" (text_of a) (text_of b) head next parts from to is is';
    }

-- What lines say stands for them, with one line more.
abbrev Follows : Naming → List Tree → List Tree → List Tree → List Tree → Tree → Lines → Type 0
Follows naming a b c d line next =
    (is_line line ≡ true)
    × Stand naming next (then a (begins_with "create" "players" line) line) (then b (begins_with "create" "teams" line) line)
    (then c (begins_with "create" "deck" line) line) (then d (begins_with "put" "points" line) line)

-- that, where it is known how the line begins
follows : (naming : Naming) (a b c d : List Tree) (line : Tree) (next : Lines) (players teams decks points : Bool)
    → Kinds line players teams decks points → (players || teams || decks || points) ≡ true
    → Stand naming next (then a players line) (then b teams line) (then c decks line) (then d points line)
    → Follows naming a b c d line next
follows naming a b c d line next players teams decks points kinds some stand =
    rw (kinds.k_players, kinds.k_teams, kinds.k_decks, kinds.k_points) (some, stand)

-- one more line, by its rule
line_rule_means : (naming : Naming) (said : Lines) (a b c d : List Tree) (from to : ℕ) (rule : Rule) (parts : Trees)
    → Stand naming said a b c d → Told rule parts
    → Means (line_rule naming said rule parts) (λ next. Follows naming a b c d (list parts from to) next)
unfolding players_line teams_line deck_line points_line
line_rule_means naming said a b c d from to rule.CreatePlayers (cons create (cons players (cons count nil))) stand told =
    behind (ensure (is_none said.players)) _ (ensured (is_none said.players))
    (λ u first. behind (count_at 1 most_players count) _ (count_means 1 most_players count)
    (λ n is. something (record said { players = Some n })
    (follows naming a b c d (list (cons create (cons players (cons count nil))) from to) (record said { players = Some n })
    true false false false (kinds keyword.Create keyword.Players create players (cons count nil) from to told.0 told.1) refl
    (record {
      of_players = first_one StandsPlayers said.players a n _ first stand.of_players (told.0, (told.1, (is, tt)));
      of_teams = stand.of_teams;
      of_decks = stand.of_decks;
      of_points = stand.of_points;
    }))))
line_rule_means naming said a b c d from to rule.CreateTeams (cons create (cons teams (cons part parts))) stand told =
    behind (ensure (is_none said.teams)) _ (ensured (is_none said.teams))
    (λ u first. behind (teams_at (cons part parts)) _ (teams_mean (cons part parts))
    (λ all each. something (record said { teams = Some all })
    (follows naming a b c d (list (cons create (cons teams (cons part parts))) from to) (record said { teams = Some all })
    false true false false (kinds keyword.Create keyword.Teams create teams (cons part parts) from to told.0 told.1) refl
    (record {
      of_players = stand.of_players;
      of_teams = first_one StandsTeams said.teams b all _ first stand.of_teams (told.0, (told.1, (some_part part parts, each)));
      of_decks = stand.of_decks;
      of_points = stand.of_points;
    }))))
line_rule_means naming said a b c d from to rule.CreateDeck (cons create (cons deck (cons loc (cons tree nil)))) stand told =
    behind (deck_at naming loc tree) _ (deck_means naming loc tree)
    (λ line is. something (record said { decks = said.decks ++ line ∷ [] })
    (follows naming a b c d (list (cons create (cons deck (cons loc (cons tree nil)))) from to)
    (record said { decks = said.decks ++ line ∷ [] })
    false false true false (kinds keyword.Create keyword.Deck create deck (cons loc (cons tree nil)) from to told.0 told.1) refl
    (record {
      of_players = stand.of_players;
      of_teams = stand.of_teams;
      of_decks =
          zip_push (StandsDeck naming) said.decks c line _ stand.of_decks
          ((told.0, (told.1, (is.0.0, (is.1, tt)))), is.0.1);
      of_points = stand.of_points;
    })))
line_rule_means naming said a b c d from to rule.PutPoints (cons put (cons points (cons map (cons tree nil)))) stand told =
    behind (points_at naming (length said.points) map tree) _ (map_means naming (length said.points) map tree)
    (λ entries is. something (record said { points = said.points ++ entries ∷ [] })
    (follows naming a b c d (list (cons put (cons points (cons map (cons tree nil)))) from to)
    (record said { points = said.points ++ entries ∷ [] })
    false false false true (kinds keyword.Put keyword.Points put points (cons map (cons tree nil)) from to told.0 told.1) refl
    (record {
      of_players = stand.of_players;
      of_teams = stand.of_teams;
      of_decks = stand.of_decks;
      of_points =
          subst (λ all. AllZip (StandsMap naming) all
          (d ++ list (cons put (cons points (cons map (cons tree nil)))) from to ∷ []))
          (sym (numbered_more said.points entries))
          (zip_push (StandsMap naming) (numbered said.points) d (length said.points, entries) _ stand.of_points
          (told.0, (told.1, (is.0, (is.1, tt)))));
    })))
line_rule_means naming said a b c d from to rule.CreateTeams (cons create (cons teams nil)) stand told =
    let fits : false ≡ true = told.2 in absurd cc
line_rule_means naming said a b c d from to rule parts stand told = nothing

-- one more line
line_means : (naming : Naming) (said : Lines) (a b c d : List Tree) (line : Tree) → Stand naming said a b c d
    → Means (line_at naming said line) (λ next. Follows naming a b c d line next)
unfolding line_at
line_means naming said a b c d (word bytes from to) stand = nothing
line_means naming said a b c d (list parts from to) stand =
    behind (rule_at symbol.Line parts) (λ rule. line_rule naming said rule parts) (told_at symbol.Line parts)
    (λ rule told. line_rule_means naming said a b c d from to rule parts stand told)

-- lines of one kind, before later ones
then_more : (first second : String) (a : List Tree) (line : Tree) (lines : Trees)
    → then a (begins_with first second line) line ++ lines_with first second lines
    ≡ a ++ lines_with first second (cons line lines)
then_more first second a line lines = by_cases (begins_with first second line) (lines_with first second lines)
  where
    by_cases : (told : Bool) (later : List Tree) → then a told line ++ later ≡ a ++ cond told (line ∷ later) later
    by_cases true later = append_assoc a (line ∷ []) later
    by_cases false later = refl

-- the same lines
same_lines : (naming : Naming) (said : Lines) (a b c d a' b' c' d' : List Tree) → a ≡ a' → b ≡ b' → c ≡ c' → d ≡ d'
    → Stand naming said a b c d → Stand naming said a' b' c' d'
same_lines naming said a b c d a' b' c' d' ea eb ec ed stand =
    record {
      of_players = subst (λ lines. AllZip StandsPlayers (option_to_list said.players) lines) ea stand.of_players;
      of_teams = subst (λ lines. AllZip StandsTeams (option_to_list said.teams) lines) eb stand.of_teams;
      of_decks = subst (λ lines. AllZip (StandsDeck naming) said.decks lines) ec stand.of_decks;
      of_points = subst (λ lines. AllZip (StandsMap naming) (numbered said.points) lines) ed stand.of_points;
    }

-- all lines
lines_mean : (naming : Naming) (said : Lines) (a b c d : List Tree) (lines : Trees) → Stand naming said a b c d
    → Means (lines_at naming said lines)
    (λ all. (are_lines lines ≡ true)
    × Stand naming all (a ++ lines_with "create" "players" lines) (b ++ lines_with "create" "teams" lines)
    (c ++ lines_with "create" "deck" lines) (d ++ lines_with "put" "points" lines))
lines_mean naming said a b c d nil stand =
    something said (
      refl,
      same_lines naming said a b c d _ _ _ _ (sym (append-nil a)) (sym (append-nil b)) (sym (append-nil c))
          (sym (append-nil d)) stand,
    )
lines_mean naming said a b c d (cons line lines) stand =
    behind (line_at naming said line) (λ next. lines_at naming next lines) (line_means naming said a b c d line stand)
    (λ next here. weaker (lines_at naming next lines) (lines_mean naming next _ _ _ _ lines here.1)
    (λ all later. (
      ap₂ (λ x y. x && y) here.0 later.0,
      same_lines naming all _ _ _ _ _ _ _ _ (then_more "create" "players" a line lines) (then_more "create" "teams" b line lines)
          (then_more "create" "deck" c line lines) (then_more "put" "points" d line lines) later.1,
    )))

-- where the players stand on a line there is a line
some_line : (players : ℕ) (lines : Trees) → AllZip StandsPlayers (players ∷ []) (lines_with "create" "players" lines)
    → nat_le 1 (count lines) ≡ true
some_line players nil none = absurd none
some_line players (cons line lines) some = some_part line lines

-- what all lines say stands for them
finished : (naming : Naming) (lines : Trees) (all : Lines) (n : ℕ) (sheet : Sheet) → all.players ≡ Some n
    → setup_in sheet ≡ record { players = n; teams = all.teams; decks = all.decks; points = all.points }
    → are_lines lines ≡ true
    → Stand naming all (lines_with "create" "players" lines) (lines_with "create" "teams" lines)
    (lines_with "create" "deck" lines) (lines_with "put" "points" lines)
    → Full (StandsSetup naming sheet) lines
finished naming lines all n sheet is same alone stand =
    let players : AllZip StandsPlayers (sheet.players ∷ []) (lines_with "create" "players" lines) =
    subst (λ ps. AllZip StandsPlayers ps (lines_with "create" "players" lines))
    (ap option_to_list is ∙ ap (λ (setup : Setup). setup.players ∷ []) (sym same)) stand.of_players in (
      some_line sheet.players lines players,
      record {
        lines_alone = alone;
        players = players;
        teams =
            subst (λ teams. AllZip StandsTeams teams (lines_with "create" "teams" lines))
            (teams_listed all.teams ∙ ap (λ (setup : Setup). team_lines setup.teams) (sym same)) stand.of_teams;
        decks =
            subst (λ decks. AllZip (StandsDeck naming) decks (lines_with "create" "deck" lines))
            (ap (λ (setup : Setup). setup.decks) (sym same)) stand.of_decks;
        points =
            subst (λ points. AllZip (StandsMap naming) (numbered points) (lines_with "put" "points" lines))
            (ap (λ (setup : Setup). setup.points) (sym same)) stand.of_points;
      },
    )

-- the setup of a sheet
pub setup_means : (naming : Naming) (lines : Trees)
    → Means (setup_at naming lines) (λ setup. (sheet : Sheet) → setup_in sheet ≡ setup → Full (StandsSetup naming sheet) lines)
setup_means naming lines =
    behind (lines_at naming no_line lines) setup_of
    (lines_mean naming no_line [] [] [] [] lines (record { of_players = tt; of_teams = tt; of_decks = tt; of_points = tt }))
    (λ all said. behind all.players _ (means_if all.players (λ n is. is))
    (λ n is. something (record { players = n; teams = all.teams; decks = all.decks; points = all.points })
    (λ sheet same. finished naming lines all n sheet is same said.0 said.1)))
