-- What is kept from one decision to the next.
use Rattle.std.specs.Prelude.{◌≡◌, IfSome}
use Rattle.rc_rollout.specs.declared.ground.Ground.TheInside.{Inside}

-- the desk is laid, and the machine plays, for its about
pub record IsGround (g : Inside) : Type 0 where
  pub laid : IfSome g.desk (λ desk. desk.table.shape ≡ g.about.value.shape)
  pub plays : IfSome g.machine (λ machine. machine.about ≡ g.about.value)
