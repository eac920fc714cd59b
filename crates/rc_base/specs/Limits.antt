-- The limits of sheets, of play, of plans, of options and of texts, but for the range of the numbers of a game.
use Rattle.std.specs.Prelude.{ℕ}

abbrev pub most_players : ℕ
most_players = 8

abbrev pub most_cards : ℕ
most_cards = 512

abbrev pub most_locations : ℕ
most_locations = 256

abbrev pub most_numbers : ℕ
most_numbers = 256

abbrev pub most_attrs : ℕ
most_attrs = 256

abbrev pub most_values : ℕ
most_values = 256

abbrev pub most_maps : ℕ
most_maps = 256

abbrev pub most_stages : ℕ
most_stages = 256

-- choices
abbrev pub most_sites : ℕ
most_sites = 64

-- binders around one place
abbrev pub most_variables : ℕ
most_variables = 4

-- repeats around one place
abbrev pub most_repeats : ℕ
most_repeats = 2

-- lists that are open at one place
abbrev pub most_open : ℕ
most_open = 64

-- times that an effect repeats others
abbrev pub most_times : ℕ
most_times = 1000

-- cards of a collection that count
abbrev pub most_in_collection : ℕ
most_in_collection = 512

-- items of a menu
abbrev pub most_items : ℕ
most_items = 256

-- references in one `mem`, and in all together
abbrev pub most_in_mem : ℕ
most_in_mem = 512

abbrev pub most_references : ℕ
most_references = 1024

-- ids in one list of a table: of cards, or the references in a `mem`
abbrev pub most_in_list : ℕ
most_in_list = most_in_mem

-- the largest seed of a match, and the largest key of a strategy: eighteen digits
abbrev pub largest_seed : ℕ
largest_seed = 999999999999999999

-- the most playouts of an item
abbrev pub most_rounds : ℕ
most_rounds = 1000

abbrev pub most_matches : ℕ
most_matches = 4096

-- matches of a built-in game
abbrev pub most_in_bench : ℕ
most_in_bench = 1000

abbrev pub most_turns : ℕ
most_turns = 100000

-- the most turns of all matches of a plan together
abbrev pub most_turns_in_all : ℕ
most_turns_in_all = 262144

abbrev pub most_workers : ℕ
most_workers = 64

-- totals that a cache keeps
abbrev pub most_entries : ℕ
most_entries = 65536

-- bytes of a sheet with its plan
abbrev pub longest_source : ℕ
longest_source = 1048576

-- bytes of a sheet with its plan and the transcript of a house
abbrev pub longest_text : ℕ
longest_text = 33554432
