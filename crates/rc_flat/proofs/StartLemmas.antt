-- Machines at the start, and at the same place.
use Rattle.std.proofs.Common.{◌≡◌, ◌≤◌, List, [], replicate, false, None, true≢false, sym, ap, ◌∙◌, subst, append-nil, arith}
use Rattle.std.proofs.lemmas.List.Elements.{All-from_recursion}
use Rattle.rc_sheet_spec.specs.Sheet.{SheetItems}
use Rattle.rc_sheet_spec.specs.Lists.{item_list}
use Rattle.rc_sheet_spec.specs.WellFormed.{IsWellFormed}
use Rattle.rc_play_spec.specs.Control.{Control}
use Rattle.rc_play_spec.specs.Path.{Path}
use Rattle.rc_play_spec.specs.Table.{Table, opening}
use Rattle.rc_play_spec.specs.About.{About}
use Rattle.rc_play_spec.specs.Step.{Config, todos, start}
use Rattle.rc_play_spec.specs.Fits.{HasFrames}
use Rattle.rc_play_spec.proofs.FrameLemmas.{start_frames}
use Rattle.rc_play_spec.proofs.ControlLemmas.{zeros}
use Rattle.rc_code.specs.Instruction.{Instruction}
use Rattle.rc_code.specs.Meaning.{items_in}
use Rattle.rc_flat.specs.Shallow.{AreShallow}
use Rattle.rc_code.specs.Implements.{Implements}
use Rattle.rc_flat.specs.Flat.{Flat, config_of, IsInPlay}
use Rattle.rc_flat.proofs.ShallowLemmas.{start_shallow}

-- AT THE START

abbrev pub at_start : About → List Instruction → Flat
at_start about code =
    record {
      about = about;
      code = code;
      place = record { outer = []; next = 0; at_round = false };
      table = opening about.shape;
      control = record { site = None; frames = []; turn = 0; made = replicate about.sheet.players 0 };
    }

starts : (about : About) (code : List Instruction) → Implements about.sheet code → config_of (at_start about code) ≡ start about
starts about code implements =
    ap (λ left. record { left = left; table = opening about.shape; control = (at_start about code).control })
    (append-nil (todos (item_list (items_in code)))
    ∙ ap (λ (items : SheetItems). todos (item_list items)) implements.items)

start_plays : (about : About) (code : List Instruction) → Implements about.sheet code → IsWellFormed about.sheet → IsInPlay (at_start about code)
start_plays about code implements formed =
    let starts' = sym (starts about code implements) in
    record {
      stands = record { stages = tt; at_stage = λ e. absurd (true≢false (sym e)) };
      frames = subst HasFrames starts' (start_frames about);
      shallow = subst (λ (c : Config). AreShallow c.left) starts' (start_shallow about formed);
      turn = omega arith;
      counts = All-from_recursion (λ m. m ≤ 0) (replicate about.sheet.players 0) (zeros about.sheet.players 0);
    }

-- a machine of these parts
pub start_ready : (about : About) (code : List Instruction) (place : Path) (table : Table) (control : Control) → Implements about.sheet code → IsWellFormed about.sheet →
    place ≡ (at_start about code).place → table ≡ (at_start about code).table → control ≡ (at_start about code).control →
    IsInPlay (record { about = about; code = code; place = place; table = table; control = control })
    × (config_of (record { about = about; code = code; place = place; table = table; control = control }) ≡ start about)
start_ready about code place table control implements formed place_is table_is control_is =
    let same : at_start about code ≡ record { about = about; code = code; place = place; table = table; control = control } =
    ap (λ (p : Path). record { about = about; code = code; place = p; table = opening about.shape; control = (at_start about code).control }) (sym place_is)
    ∙ ap (λ (t : Table). record { about = about; code = code; place = place; table = t; control = (at_start about code).control }) (sym table_is)
    ∙ ap (λ (c : Control). record { about = about; code = code; place = place; table = table; control = c }) (sym control_is) in (
      subst IsInPlay same (start_plays about code implements formed),
      sym (ap config_of same)
          ∙ starts about code implements,
    )
