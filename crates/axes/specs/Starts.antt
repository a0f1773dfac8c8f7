-- The controller that the program runs. Assumes nothing.
use Rattle.std.specs.Prelude.{ℕ, replicate, pos, codes}
use Rattle.drive.specs.Axes.{axes}
use Rattle.motors.specs.Banks.{banked}
use Rattle.drives.specs.Counting.{Rate, CountingState, counted, counting_from}
use Rattle.drives.specs.declared.banked.Banked.{Banked}
use Rattle.model.specs.Controller.{Controller, parked, live, set_call, arming, call, new}

abbrev pub bank_of : Banked Rate → CountingState
bank_of d = d.bank

-- A counting drive at rate 2 from 0, with `IOK2,1` set on X.
abbrev pub ready : Controller CountingState
ready =
    let o = banked counted in
    (call o (new o (counting_from (replicate axes (pos 2)) (replicate axes (pos 0)))) (set_call (codes "IOK2,1"))).now

-- Armed with a word.
abbrev pub armed : {S : Type 0} → Controller S → ℕ → Controller S
armed (parked p) w = live (arming p w)
armed (live l) w = live l
