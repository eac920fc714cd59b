-- Legal house texts, over whole records: records of plays with the plan's shuffles and any items as choices, and their standings. Where a
-- text names what items bind, its marks are those of the choices.
use Rattle.std.specs.Prelude.{◌≡◌, ℕ, ◌+◌, ◌<◌, Bool, true, false, List, [], ◌∷◌, length, Some}
use Rattle.rc_base.specs.Transcript.{Pick, Record}
use Rattle.rc_play_spec.specs.HouseText.{HouseText, NamedText}
use Rattle.rc_play_spec.specs.Along.{marks_of_text}
use Rattle.rc_play_spec.specs.About.{About}
use Rattle.rc_play_spec.specs.Effects.{Dealing}
use Rattle.rc_play_spec.specs.Step.{Config, Stop, decide, is_done, is_limit, start}
use Rattle.rc_play_spec.specs.Stop.{Stopped, stop_of}
use Rattle.rc_play_spec.specs.Decision.{choose}
use Rattle.rc_play_spec.specs.Play.{stop_behind, pick_at, stop_for}
use Rattle.rc_play_spec.specs.Scores.{record_of}
use Rattle.rc_play_spec.specs.Plan.{Plan, deal_at}
use Rattle.rc_play_spec.specs.House.{standings_of}

-- a choice as it may be made at a stop: some item of the menu
abbrev pub IsMade : About → Pick → Stop → Config → Type 0
IsMade about p (decide seat site) c = (p ≡ pick_at about seat site p.item c) × (p.item < p.size)
IsMade about p is_done c = ⊥
IsMade about p is_limit c = ⊥

-- these choices lead from one stop to another
abbrev pub Leads : About → Dealing ℕ → List Pick → Stopped ℕ → Stopped ℕ → Type 0
Leads about dealing [] at end = at ≡ end
Leads about dealing (p ∷ picks) at end =
    IsMade about p at.stop at.config
    × (next : Stopped ℕ) × (stop_behind about dealing (choose about dealing at.dealer p.item at.config) ≡ Some next)
    × Leads about dealing picks next end

module _ (about : About) (dealing : ℕ → Dealing ℕ) (plan : Plan) where
  -- the record of a play of match m: its choices lead from the first stop to an end, and it tells that play
  pub record IsRecordOfPlay (m : ℕ) (r : Record) : Type 0 where
    pub first : Stopped ℕ
    pub end : Stopped ℕ
    pub begins : stop_of about (dealing (deal_at plan m).deal) 0 (start about) ≡ Some first
    pub leads : Leads about (dealing (deal_at plan m).deal) r.picks first end
    pub stop : end.stop ≡ stop_for r.ending
    pub tells : r ≡ record_of about m (deal_at plan m).deal (deal_at plan m).seats
        (record {
          picks = r.picks;
          ending = r.ending;
          table = end.config.table;
          control = end.config.control;
          dealer = end.dealer;
        })

  -- records of plays of the matches from match m on
  abbrev pub AreRecords : (m : ℕ) → List Record → Type 0
  AreRecords m [] = Unit {0}
  AreRecords m (r ∷ records) = IsRecordOfPlay m r × AreRecords (m + 1) records

  -- a record for each match of the plan, and the standings that they make
  pub record IsLegal (t : HouseText) : Type 0 where
    pub count : length t.matches ≡ length plan.matches
    pub records : AreRecords 0 t.matches
    pub standings : t.standings ≡ standings_of plan t.matches

  -- the same with its marks, if it has any
  abbrev pub HasItsMarks : (named : Bool) → NamedText → Type 0
  HasItsMarks false n = Unit {0}
  HasItsMarks true n = n.marks ≡ marks_of_text about dealing plan n.text

  abbrev pub IsLegalText : (named : Bool) → NamedText → Type 0
  IsLegalText named n = IsLegal n.text × HasItsMarks named n
