-- The house text of a source: its tokens spell a sheet and a plan, each is read off its form, and the plan's matches are played.
use Rattle.std.specs.Prelude.{ℕ, ◌+◌, List, [], ◌∷◌, ◌++◌, map, slice_index, codes, bytes_eq, Option, None, option_map, unwrap_or, Ok, if◌then◌else◌}
use Rattle.rc_base.specs.Numbers.{below}
use Rattle.rc_base.specs.Token.{tokens}
use Rattle.rc_base.specs.Tree.{Tree, word, list, Trees, nil, cons}
use Rattle.rc_base.specs.Literal.{natural}
use Rattle.rc_form.specs.Read.{Reading, read}
use Rattle.rc_resolve.specs.Naming.{naming_of}
use Rattle.rc_sheet.specs.ReadSheet.{sheet_at}
use Rattle.rc_play_spec.specs.Plan.{Strategy, scripted, random, rollout, Deal, Plan}
use Rattle.rc_play_spec.specs.About.{about_of}
use Rattle.rc_play_spec.specs.Keyed.{keyed_house_text}

-- the number that a word spells
abbrev pub number_of : Tree → ℕ
number_of (word bytes from to) = unwrap_or (natural bytes) 0
number_of (list parts from to) = 0

abbrev pub numbers_of : Trees → List ℕ
numbers_of nil = []
numbers_of (cons tree trees) = number_of tree ∷ numbers_of trees

-- a strategy, by its head word and the numbers behind it
abbrev pub strategy_of : Tree → List ℕ → Strategy
strategy_of (word bytes from to) numbers =
    if bytes_eq bytes (codes "random") then random (slice_index numbers 0)
    else if bytes_eq bytes (codes "rollout") then rollout (slice_index numbers 0) (slice_index numbers 1)
    else scripted numbers
strategy_of (list parts from to) numbers = scripted []

abbrev pub strategy_at : Tree → Strategy
strategy_at (list (cons head parts) from to) = strategy_of head (numbers_of parts)
strategy_at other = scripted []

abbrev pub strategies_at : Trees → List Strategy
strategies_at nil = []
strategies_at (cons tree trees) = strategy_at tree ∷ strategies_at trees

-- the matches of a part: one, by its two numbers, or `from` two numbers on so many
abbrev pub deals_of : Tree → List Deal
deals_of (list (cons deal (cons seats nil)) from to) = record { deal = number_of deal; seats = number_of seats } ∷ []
deals_of (list (cons head (cons deal (cons seats (cons count nil)))) from to) =
    map (λ m. record { deal = number_of deal + m; seats = number_of seats + m }) (below (number_of count))
deals_of other = []

abbrev pub deals_at : Trees → List Deal
deals_at nil = []
deals_at (cons tree trees) = deals_of tree ++ deals_at trees

-- the parts of a list behind its head word
abbrev pub behind_head : Tree → Trees
behind_head (list (cons head parts) from to) = parts
behind_head other = nil

-- the plan that a form without a fault says
abbrev pub plan_at : Trees → Plan
plan_at (cons seats (cons matches (cons turns parts))) =
    record {
      strategies = strategies_at (behind_head seats);
      matches = deals_at (behind_head matches);
      turns = slice_index (numbers_of (behind_head turns)) 0;
    }
plan_at other = record { strategies = []; matches = []; turns = 0 }

-- the house text of a sheet's form and a plan; nothing where no sheet is said
abbrev pub house_text_with : Tree → Plan → Option (List ℕ)
house_text_with sheet plan =
    option_map (λ s. keyed_house_text (about_of s plan.turns) plan) (sheet_at (naming_of sheet) sheet)

abbrev pub house_text_by_forms : Reading → Option (List ℕ)
house_text_by_forms (Ok ((sheet ∷ plan ∷ []), behind)) = house_text_with sheet (plan_at (behind_head plan))
house_text_by_forms other = None

-- the house text of a source
abbrev pub house_text_of : List ℕ → Option (List ℕ)
house_text_of source = house_text_by_forms (read 2 [] [] (tokens source))
