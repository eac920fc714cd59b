use Rattle.std.proofs.Common.{◌≡◌, ℕ, List, [], ◌∷◌, ◌++◌, map, option_map, OnOk, sym, ap, ◌∙◌, append_assoc}
use Rattle.rc_base.specs.Tree.{Tree, printed, printed_behind}
use Rattle.rc_deck.specs.Points.{entries_of}
use Rattle.rc_deck.proofs.EachLemmas.{on_ok}
use Rattle.rc_sheet_spec.specs.StandsSetup.{numbered}
use Rattle.rc_sheet_spec.specs.Printing.{packed, players_form, teams_forms, deck_form, map_form}
use Rattle.rc_ast.specs.Sheet.{teams_seen, deck_line_seen}
use Rattle.rc_print.specs.Printing.{naming_seen}
use Rattle.rc_print.proofs.Added.{start, then, last}
use Rattle.rc_print.proofs.FormLemmas.{printed_behind-append}
use Rattle.rc_print.proofs.sheet.push_setup.Goals as goal

-- bytes one behind the other
in_turn : (s players teams decks maps : List ℕ) → (((s ++ players) ++ teams) ++ decks) ++ maps ≡ s
    ++ (players ++ ((teams ++ decks) ++ maps))
in_turn s players teams decks maps = simp append_assoc

-- the bytes of the lines
setup_bytes : (players : Tree) (teams decks maps : List Tree)
    → ((((32 ∷ []) ++ printed players) ++ printed_behind (packed teams)) ++ printed_behind (packed decks))
    ++ printed_behind (packed maps)
    ≡ printed_behind (packed (players ∷ ((teams ++ decks) ++ maps)))
setup_bytes players teams decks maps =
    in_turn (32 ∷ []) (printed players) (printed_behind (packed teams)) (printed_behind (packed decks))
    (printed_behind (packed maps))
    ∙ ap (λ rest. 32 ∷ (printed players ++ rest))
    (ap (λ bytes. bytes ++ printed_behind (packed maps)) (sym (printed_behind-append teams decks))
    ∙ sym (printed_behind-append (teams ++ decks) maps))

pub returns : goal.returns
returns c =
    let sheet = c.args.sheet.now in
    let naming = naming_seen sheet in
    let players : Tree = players_form sheet.players in
    let teams : List Tree = teams_forms (option_map teams_seen sheet.teams) in
    let decks : List Tree = map (deck_form naming) (map deck_line_seen sheet.decks.items) in
    let maps : List Tree = map (map_form naming) (numbered (map entries_of sheet.points.items)) in
    let are_decks : c.push_decks.new.out.bytes.items ≡ c.push_teams.new.out.bytes.items ++ printed_behind (packed decks) =
    c.in_ok-push_decks.ensures
    ∙ ap (λ all. c.push_teams.new.out.bytes.items ++ printed_behind (packed
    (map (deck_form naming) (map deck_line_seen all)))) c.deref.ensures.value in
    let are_maps : OnOk c.push_maps.result (c.push_maps.new.out.bytes.items ≡ c.push_decks.new.out.bytes.items
    ++ printed_behind (packed maps)) =
    on_ok c.push_maps.result c.push_maps.ensures (λ is. is
    ∙ ap (λ all. c.push_decks.new.out.bytes.items ++ printed_behind (packed
    (map (map_form naming) (numbered (map entries_of all))))) c.deref-2.ensures.value) in
    let first = then (printed players)
    (then (32 ∷ []) (start c.args.out.now.bytes.items) c.in_ok-space.ensures) c.in_ok-push_players.ensures in
    let second = then (printed_behind (packed decks)) (then (printed_behind
    (packed teams)) first c.in_ok-push_teams.ensures) are_decks in
    last _ (printed_behind (packed maps)) _ c.push_maps.result second are_maps (setup_bytes players teams decks maps)
