-- Teams: the one that has a player.
use Rattle.std.proofs.Common.{◌≡◌, ℕ, ◌+◌, ◌<◌, Bool, true, false, not, ◌||◌, nat_eq, if◌then◌else◌, List, [], ◌∷◌, length, get_or, drop, map, Vec, Global, refl, ap, ap₂, sym, true≢false, ◌∙◌}
use Rattle.std.specs.List.{list_any}
use Rattle.std.proofs.lemmas.List.{at_drop_more}
use Rattle.std.proofs.lemmas.Bool.Decides.{Decides-eqb}
use Rattle.rc_sheet_spec.specs.WellFormed.{is_among}
use Rattle.rc_play_spec.specs.Shape.{team_among}

abbrev pub team_items : List (Vec ℕ Global) → List (List ℕ)
team_items teams = map (λ (team : Vec ℕ Global). team.items) teams

-- the team in a place is it, or one behind it
pub team_among_drop : (teams : List (Vec ℕ Global)) (i : ℕ) (x : Vec ℕ Global) (player : ℕ) (b : Bool) → i < length teams → x ≡ get_or teams i x →
    is_among player x.items ≡ b →
    team_among (team_items (drop i teams)) player ≡ (if not b then 1 + team_among (team_items (drop (i + 1) teams)) player else 0)
team_among_drop teams i x player b lt is among =
    at_drop_more (λ all. team_among (team_items all) player) teams i x lt
    ∙ ap (λ (y : Vec ℕ Global). team_among (team_items (y ∷ drop (i + 1) teams)) player) (sym is)
    ∙ ap (λ c. if not c then 1 + team_among (team_items (drop (i + 1) teams)) player else 0) among

equal_either : (a b : ℕ) (x y : Bool) → nat_eq a b ≡ x → nat_eq b a ≡ y → x ≡ y
equal_either a b true true e f = refl
equal_either a b false false e f = refl
equal_either a b true false e f = absurd (true≢false (sym ((Decides-eqb b a).1 (sym ((Decides-eqb a b).0 e))) ∙ f))
equal_either a b false true e f = absurd (true≢false (sym ((Decides-eqb a b).1 (sym ((Decides-eqb b a).0 f))) ∙ e))

-- a player is among those of a team, whichever side of the test it stands on
pub among_either : (player : ℕ) (team : List ℕ) → list_any (λ other. nat_eq other player) team ≡ is_among player team
among_either player [] = refl
among_either player (other ∷ team) = ap₂ ◌||◌ (equal_either other player (nat_eq other player) (nat_eq player other) refl refl) (among_either player team)

pub among : (player : ℕ) (read team : List ℕ) (has b : Bool) → has ≡ list_any (λ other. nat_eq other player) read → read ≡ team → has ≡ b →
    is_among player team ≡ b
among player read team has b is same answer = sym (is ∙ among_either player read ∙ ap (is_among player) same) ∙ answer
