-- Tables stay where others are put before them, and come back where those are taken away.
use Rattle.std.proofs.Common.{◌≡◌, ℕ, ◌<◌, ◌==◌, List, [], ◌∷◌, ◌++◌, length, length-append, refl, sym, ap, ◌∙◌, arith}
use Rattle.std.proofs.lemmas.Bool.{cond-true, cond-false, eq-eqb, ne_eqb}
use Rattle.rc_play_spec.specs.Table.{Table}
use Rattle.rc_play_spec.specs.About.{About}
use Rattle.rc_play_spec.specs.Control.{Control}
use Rattle.rc_play_spec.specs.Path.{Path}
use Rattle.rc_rules.specs.Control.{control_seen}
use Rattle.rc_code.specs.Instruction.{Instruction}
use Rattle.rc_rules.specs.declared.control.Control.{Control as RawControl}
use Rattle.rc_undo.specs.Undo.{Kept, tables}
use Rattle.rc_flat.specs.Flat.{config_of}
use Rattle.rc_flat.specs.State.{IsReady, flat_of, config_at}
use Rattle.rc_flat.specs.MarkedMoments.{rewound, flat_marked, IsInMatch}
use Rattle.rc_flat.specs.declared.marks.Mark.{Mark}
use Rattle.rc_flat.specs.declared.state.State.{State}

rewound-first : (t : Table) (ts : List Table) → rewound (t ∷ ts) (length ts) ≡ t
rewound-first t ts = cond-true (length ts == length ts) t (rewound ts (length ts)) (eq-eqb (length ts) (length ts) refl)

rewound-next : (t : Table) (ts : List Table) (n : ℕ) → n < length ts → rewound (t ∷ ts) n ≡ rewound ts n
rewound-next t ts n lt = cond-false (length ts == n) t (rewound ts n) (ne_eqb (length ts) n (λ same. absurd (omega (arith, same, lt))))

rewound-more : (more ts : List Table) (n : ℕ) → n < length ts → rewound (more ++ ts) n ≡ rewound ts n
rewound-more [] ts n lt = refl
rewound-more (t ∷ more) ts n lt =
    let long = length-append more ts in
    rewound-next t (more ++ ts) n (omega (arith, lt, long)) ∙ rewound-more more ts n lt

-- where a match stood stays where it was, whatever tables are put before its own
pub same_marked : (about : About) (code : List Instruction) (all ts more : List Table) (mark : Mark) → all ≡ more ++ ts → mark.edits < length ts →
    flat_marked about code all mark ≡ flat_marked about code ts mark
same_marked about code all ts more mark is lt =
    ap (λ (t : Table). record { about = about; code = code; place = mark.place; table = t; control = control_seen mark.control })
    (ap (λ all. rewound all mark.edits) is ∙ rewound-more more ts mark.edits lt)

-- what is marked is where a match stands
pub marked_here : (about : About) (code : List Instruction) (state : State) (mark : Mark) → control_seen mark.control ≡ control_seen state.control →
    mark.place ≡ state.place → mark.edits ≡ length state.board.before → flat_marked about code (tables state.board) mark ≡ flat_of about code state
marked_here about code state mark control place edits =
    let all = tables state.board in
    ap (λ (c : Control). record { about = about; code = code; place = mark.place; table = rewound all mark.edits; control = c }) control
    ∙ ap (λ (p : Path). record { about = about; code = code; place = p; table = rewound all mark.edits; control = control_seen state.control }) place
    ∙ ap (λ (t : Table). record { about = about; code = code; place = state.place; table = t; control = control_seen state.control })
    (ap (rewound all) edits ∙ rewound-first state.board.laid.table state.board.before)

-- where the board went back to a mark, a match stands where it was marked
pub marked_back : (about : About) (code : List Instruction) (all gone : List Table) (state : State) (mark : Mark) → all ≡ gone ++ tables state.board →
    control_seen mark.control ≡ control_seen state.control → mark.place ≡ state.place → length state.board.before ≡ mark.edits →
    flat_marked about code all mark ≡ flat_of about code state
marked_back about code all gone state mark back control place edits =
    same_marked about code all (tables state.board) gone mark back (omega (arith, edits)) ∙ marked_here about code state mark control place (sym edits)

pub in_match : (about : About) (code : List Instruction) (state : State) → IsReady about code state → IsInMatch (flat_of about code state)
in_match about code state ready = record { play = ready.play; offered = λ site is. (ready.kept site is).offered }

-- states that differ in their menus alone
pub config_same : (about : About) (code : List Instruction) (old new : State) → new.board ≡ old.board → new.control ≡ old.control → new.place ≡ old.place →
    config_at about code new ≡ config_at about code old
config_same about code old new board control place =
    ap (λ (b : Kept). config_of (record { about = about; code = code; place = new.place; table = b.laid.table; control = control_seen new.control })) board
    ∙ ap (λ (c : RawControl). config_of (record { about = about; code = code; place = new.place; table = old.board.laid.table; control = control_seen c })) control
    ∙ ap (λ (p : Path). config_of (record { about = about; code = code; place = p; table = old.board.laid.table; control = control_seen old.control })) place
