-- What a call did to a source or to a sink, as far as these tell it.
use Rattle.std.specs.Prelude.{◌≡◌, ℕ, ◌≤◌, ◌⊎◌, List, [], Option}
use Rattle.rc_outside.specs.Faults.{Rose}
use Rattle.rc_outside.specs.Source.{Gave}
use Rattle.rc_outside.specs.Sink.{Got, GotFront}
use Rattle.rc_house.specs.declared.status.Status.{Status}
use Rattle.rc_house.specs.declared.status.Status.TheVariants.{Done, WriteFault}
use Rattle.rc_house.specs.Status.{line_of}

-- A source or a sink at a moment: the bytes that are left or that were written, where it tells them, and its count of
-- faults.
pub record Port : Type 0 where
  pub told : Option (List ℕ)
  pub faults : ℕ

abbrev pub port : Option (List ℕ) → ℕ → Port
port told faults = record { told = told; faults = faults }

-- where a source or a sink stands, by what its trait has it tell and count
abbrev pub port_of : {A : Type 0} → (A → Option (List ℕ)) → (A → ℕ) → A → Port
port_of told faults at = port (told at) (faults at)

-- A relation of a port before a call and behind it, where the port is this source or sink.
abbrev pub between {ℓ} : {A : Type 0} {R : Type ℓ} → (A → Option (List ℕ)) → (A → ℕ) → A → A → (Port → Port → R) → R
between told faults before after said = said (port_of told faults before) (port_of told faults after)

-- a read or a write failed: the count of faults rose, or stands at its largest value, from which none rises
abbrev pub HasFailed : Port → Port → Type 0
HasFailed before after = Rose before.faults after.faults

-- No read or write failed: the count of faults is as it was. Where it stands at its largest value, one may have.
abbrev pub IsSteady : Port → Port → Type 0
IsSteady before after = after.faults ≡ before.faults

-- the source gave these bytes, from the front of what it had
abbrev pub Supplied : Port → Port → List ℕ → Type 0
Supplied before after bytes = Gave before.told after.told bytes

-- the sink received exactly this text
abbrev pub Received : Port → Port → List ℕ → Type 0
Received before after text = Got before.told after.told text

-- the sink received a front of this text
abbrev pub ReceivedFront : Port → Port → List ℕ → Type 0
ReceivedFront before after text = GotFront before.told after.told text

-- the sink received this text and no write failed, or one failed and it received a front of it
abbrev pub Took : Port → Port → List ℕ → Type 0
Took before after text =
    (Received before after text × IsSteady before after) ⊎ (HasFailed before after × ReceivedFront before after text)

-- the notes received exactly this line, and no write failed; where there is none, nothing was done to them
abbrev pub Noted : Port → Port → List ℕ → Type 0
Noted before after note = Received before after note × (note ≡ [] → after ≡ before) × IsSteady before after

-- the notes received a front of this line, which isn't empty
abbrev pub NotedFront : Port → Port → List ℕ → Type 0
NotedFront before after note = ReceivedFront before after note × (note ≡ [] → ⊥)

-- How writing a text and its note ends: both were written; or a write of the text failed, which was noted; or the text
-- was written, and a write of its note failed. No write failed but these.
abbrev pub Delivers : List ℕ → List ℕ → Port → Port → Port → Port → Status → Type 0
Delivers text note out out' notes notes' status =
    ((status ≡ Done) × Received out out' text × Noted notes notes' note × IsSteady out out')
    ⊎ ((status ≡ WriteFault) × HasFailed out out' × ReceivedFront out out' text × Took notes notes' (line_of status))
    ⊎ ((status ≡ WriteFault) × HasFailed notes notes' × Received out out' text × NotedFront notes notes' note
    × IsSteady out out')

-- The three ports of a command at a moment.
pub record Ports : Type 0 where
  pub source : Port
  pub out : Port
  pub notes : Port

abbrev pub ports : Port → Port → Port → Ports
ports source out notes = record { source = source; out = out; notes = notes }

-- where a source, out and notes stand, by what is left of the one, what the others have received, and their counts
abbrev pub moment : {S O N : Type 0} → (S → Option (List ℕ)) → (S → ℕ) → (O → Option (List ℕ)) → (O → ℕ)
    → (N → Option (List ℕ)) → (N → ℕ) → S → O → N → Ports
moment left source_faults received out_faults noted note_faults source out notes =
    ports (port_of left source_faults source) (port_of received out_faults out) (port_of noted note_faults notes)

-- no count of faults fell
pub record NoCountFell (before after : Ports) : Type 0 where
  pub source : before.source.faults ≤ after.source.faults
  pub out : before.out.faults ≤ after.out.faults
  pub notes : before.notes.faults ≤ after.notes.faults
