-- The numbers of owners are in range: current members, named ones, bound players, and teams.
use Rattle.std.proofs.Common.{◌≡◌, ℕ, zero, suc, ◌+◌, ◌<◌, ◌≤◌, nat_eq, Bool, true, false, not, cond, if◌then◌else◌, List, [], ◌∷◌, ◌++◌, length, get_or, map, slice_get, replicate, Option, Some, None, refl, sym, ap, ◌∙◌, subst, arith}
use Rattle.std.specs.Prelude.{filter, flat_map, count_by, option_map, unwrap_or}
use Rattle.std.specs.List.{AllByRecursion, AllZip, position_or_len, range_with_len}
use Rattle.rc_base.specs.Numbers.{below}
use Rattle.rc_sheet_spec.specs.Sheet.{Teams, Class, game_class, player_class, team_class, Who, game, current_player, current_team, team_of_current, team_of_var, who_var, Sheet}
use Rattle.rc_sheet_spec.specs.Naming.{class_of}
use Rattle.rc_sheet_spec.specs.WellFormed.{is_among, AreTeams, team_count, owner_count, IsWellFormed}
use Rattle.rc_play_spec.specs.Ends.{last_of}
use Rattle.rc_play_spec.specs.Control.{Frame}
use Rattle.rc_play_spec.specs.Owners.{classes_in, is_of_class, is_stage_of, frames_of, current_in}
use Rattle.rc_play_spec.specs.Shape.{Shape, team_in, team_at, shape_of}
use Rattle.rc_play_spec.specs.Value.{Known, Bind, player_bound, card_bound, group_bound, player_of, who_value}
use Rattle.rc_play_spec.specs.Scene.{CardValue, Vars}
use Rattle.rc_play_spec.specs.Step.{Stage}
use Rattle.rc_play_spec.specs.Fits.{IsFrameOf}
use Rattle.rc_play_spec.proofs.CardLemmas.{get_each, map_each, numbers_below}
use Rattle.rc_play_spec.proofs.Counting.{passing, passing-is, passing-append, none_passes}
use Rattle.rc_play_spec.proofs.Places.{class_eq_equal}

-- a player who stands in some team is found in one
found_in : (n : ℕ) (team : List ℕ) (teams : Teams) → (0 < passing (nat_eq n) (flat_map (λ team. team) teams) → position_or_len (is_among n) teams < length teams) →
    0 < passing (nat_eq n) (team ++ flat_map (λ team. team) teams) → (b : Bool) → is_among n team ≡ b →
    (if not b then 1 + position_or_len (is_among n) teams else 0) < suc (length teams)
found_in n team teams rest some true is = omega arith
found_in n team teams rest some false is =
    let none = none_passes (nat_eq n) team is in
    let parts = passing-append (nat_eq n) team (flat_map (λ team. team) teams) in
    let more = rest (omega (arith, some, none, parts)) in
    omega (arith, more)

in_a_team : (n : ℕ) (teams : Teams) → 0 < passing (nat_eq n) (flat_map (λ team. team) teams) → position_or_len (is_among n) teams < length teams
in_a_team n [] some = absurd (omega (arith, some))
in_a_team n (team ∷ teams) some = found_in n team teams (in_a_team n teams) some (is_among n team) refl

get_mapped : (f : ℕ → ℕ) (a n k : ℕ) → k < n → get_or (map f (range_with_len a n)) k 0 ≡ f (a + k)
get_mapped f a zero k lt = absurd (omega (arith, lt))
get_mapped f a (suc n) zero lt = ap f (omega arith)
get_mapped f a (suc n) (suc k) lt = get_mapped f (a + 1) n k (omega (arith, lt)) ∙ ap f (omega arith)

get_repeated : (n k x : ℕ) → k < n → get_or (replicate n x) k 0 ≡ x
get_repeated zero k x lt = absurd (omega (arith, lt))
get_repeated (suc n) zero x lt = refl
get_repeated (suc n) (suc k) x lt = get_repeated n k x (omega (arith, lt))

some_team : (teams : Teams) → 0 < length (flat_map (λ team. team) teams) → 0 < length teams
some_team [] some = some
some_team (team ∷ teams) some = omega arith

module _ (sheet : Sheet) (some : 1 ≤ sheet.players) where
  pub team_within_of : (o : Option Teams) → AreTeams sheet.players o → (n : ℕ) → n < sheet.players → team_in o n < team_count sheet o
  team_within_of None is n lt = lt
  team_within_of (Some teams) is n lt =
      let counts : ℕ → ℕ = λ player. count_by (nat_eq player) (flat_map (λ team. team) teams) in
      let at = get_mapped counts 0 sheet.players n lt in
      let one = get_repeated sheet.players n 1 lt in
      let e : 0 + n ≡ n = omega arith in
      let counted : count_by (nat_eq n) (flat_map (λ team. team) teams) ≡ 1 = ap counts (sym e) ∙ sym at ∙ ap (λ ns. get_or ns n 0) is.once ∙ one in
      let passed = passing-is (nat_eq n) (flat_map (λ team. team) teams) in
      in_a_team n teams (omega (arith, counted, passed))

  some_teams_of : (o : Option Teams) → AreTeams sheet.players o → 0 < team_count sheet o
  some_teams_of None is = some
  some_teams_of (Some teams) is = let whole = is.whole in some_team teams (omega (arith, some, whole))

module _ (sheet : Sheet) (formed : IsWellFormed sheet) where
  pub some_owners : (class : Class) → 0 < owner_count sheet class
  some_owners game_class = omega arith
  some_owners player_class = formed.limits.some_players
  some_owners team_class = some_teams_of sheet formed.limits.some_players sheet.teams formed.teams

  team_at_within : (shape : Shape) → shape ≡ shape_of sheet → (n : ℕ) → team_at shape n < owner_count sheet team_class
  team_at_within shape fits n =
      subst (λ (s : Shape). team_at s n < owner_count sheet team_class) (sym fits)
      (get_each (λ t. t < owner_count sheet team_class) 0 (some_owners team_class) (map (team_in sheet.teams) (below sheet.players)) n
      (map_each (λ n. n < sheet.players) (λ t. t < owner_count sheet team_class) (team_in sheet.teams)
      (λ n lt. team_within_of sheet formed.limits.some_players sheet.teams formed.teams n lt) (below sheet.players)
      (numbers_below 0 sheet.players sheet.players (omega arith))))

  -- a stage whose class is that of its number
  abbrev pub IsStage : Stage → Type 0
  IsStage s = slice_get (classes_in sheet.items) s.number ≡ Some s.class

  abbrev pub AreFrames : List Stage → List Frame → Type 0
  AreFrames stages frames = AllZip (IsFrameOf sheet) stages frames

  pub class_same : (class : Class) (s : Stage) (frame : Frame) → IsStage s → IsFrameOf sheet s frame → is_stage_of sheet class frame.stage ≡ true → class ≡ s.class
  class_same class s frame stands of is =
      sym (class_eq_equal s.class class
      (sym (ap (λ n. is_of_class class (slice_get (classes_in sheet.items) n)) of.stage ∙ ap (is_of_class class) stands) ∙ is))

  -- the members of the frames of a class
  fit_members : (class : Class) (stages : List Stage) (frames : List Frame) → AllByRecursion IsStage stages → AreFrames stages frames →
      AllByRecursion (λ f. is_stage_of sheet class f.stage ≡ true → f.member < owner_count sheet class) frames
  fit_members class [] [] stand are = tt
  fit_members class [] (frame ∷ frames) stand are = absurd are
  fit_members class (s ∷ stages) [] stand are = absurd are
  fit_members class (s ∷ stages) (frame ∷ frames) stand are = (
    λ is.
        subst (λ c. frame.member < owner_count sheet c) (sym (class_same class s frame stand.0 are.0 is)) are.0.member,
    fit_members class stages frames stand.1 are.1,
  )

  kept_here : (p : Frame → Bool) (n : ℕ) (frame : Frame) (frames : List Frame) → (p frame ≡ true → frame.member < n) →
      AllByRecursion (λ (f : Frame). f.member < n) (filter p frames) → (b : Bool) → p frame ≡ b →
      AllByRecursion (λ (f : Frame). f.member < n) (cond b (frame ∷ filter p frames) (filter p frames))
  kept_here p n frame frames within rest true is = (within is, rest)
  kept_here p n frame frames within rest false is = rest

  kept_within : (p : Frame → Bool) (n : ℕ) (frames : List Frame) → AllByRecursion (λ f. p f ≡ true → f.member < n) frames →
      AllByRecursion (λ (f : Frame). f.member < n) (filter p frames)
  kept_within p n [] all = tt
  kept_within p n (frame ∷ frames) all = kept_here p n frame frames all.0 (kept_within p n frames all.1) (p frame) refl

  last_within : (n : ℕ) → 0 < n → (frames : List Frame) → AllByRecursion (λ (f : Frame). f.member < n) frames →
      unwrap_or (option_map (λ (f : Frame). f.member) (last_of frames)) 0 < n
  last_within n some [] all = some
  last_within n some (frame ∷ []) all = all.0
  last_within n some (frame ∷ next ∷ frames) all = last_within n some (next ∷ frames) all.1

  -- the current member of a class
  pub current_within : (class : Class) (stages : List Stage) (frames : List Frame) → AllByRecursion IsStage stages → AreFrames stages frames →
      current_in sheet class frames < owner_count sheet class
  current_within class stages frames stand are =
      last_within (owner_count sheet class) (some_owners class) (frames_of sheet class frames)
      (kept_within (λ f. is_stage_of sheet class f.stage) (owner_count sheet class) frames (fit_members class stages frames stand are))

  -- a bound player is one
  abbrev pub IsPlayerBind : Bind CardValue → Type 0
  IsPlayerBind (player_bound n) = n < sheet.players
  IsPlayerBind (card_bound card) = Unit {0}
  IsPlayerBind (group_bound cards) = Unit {0}

  abbrev pub ArePlayerBinds : Vars → Type 0
  ArePlayerBinds vars = AllByRecursion IsPlayerBind vars

  abbrev MayBePlayer : Option (Bind CardValue) → Type 0
  MayBePlayer None = Unit {0}
  MayBePlayer (Some bind) = IsPlayerBind bind

  bound_within : (o : Option (Bind CardValue)) → MayBePlayer o → player_of o < sheet.players
  bound_within None is = formed.limits.some_players
  bound_within (Some (player_bound n)) is = is
  bound_within (Some (card_bound card)) is = formed.limits.some_players
  bound_within (Some (group_bound cards)) is = formed.limits.some_players

  get_player : (vars : Vars) (k : ℕ) → ArePlayerBinds vars → MayBePlayer (slice_get vars k)
  get_player [] k all = tt
  get_player (bind ∷ vars) zero all = all.0
  get_player (bind ∷ vars) (suc k) all = get_player vars k all.1

  -- the number of an owner
  pub who_within : (known : Known) → known.sheet ≡ sheet → known.shape ≡ shape_of sheet → (stages : List Stage) → AllByRecursion IsStage stages →
      AreFrames stages known.frames → (vars : Vars) → ArePlayerBinds vars → (who : Who) → who_value known vars who < owner_count sheet (class_of who)
  who_within known same fits stages stand are vars v game = omega arith
  who_within known same fits stages stand are vars v current_player =
      subst (λ s. current_in s player_class known.frames < owner_count sheet player_class) (sym same) (current_within player_class stages known.frames stand are)
  who_within known same fits stages stand are vars v current_team =
      subst (λ s. current_in s team_class known.frames < owner_count sheet team_class) (sym same) (current_within team_class stages known.frames stand are)
  who_within known same fits stages stand are vars v team_of_current = team_at_within known.shape fits (current_in known.sheet player_class known.frames)
  who_within known same fits stages stand are vars v (team_of_var var) = team_at_within known.shape fits (player_of (slice_get vars var))
  who_within known same fits stages stand are vars v (who_var var) = bound_within (slice_get vars var) (get_player vars var v)
