use Rattle.std.proofs.Common.{◌≡◌, ◌∙◌, map, true, subst, sym, rules}
use Rattle.xcp_seats.specs.Seating.{pair}
use Rattle.std.specs.Prelude.{IfOk}
use Rattle.xcp_stay.specs.Team.{TasksServed}
use Rattle.xcp_stay.proofs.TeamLemmas.{seats_served}
use Rattle.xcp_stay.proofs.running.in_scope.Goals.{then-all, else-all, then-seated, else-seated}
use Rattle.xcp_stay.proofs.running.in_scope.Goals as goal

pub returns-clause-seats : goal.returns-clause-seats
returns-clause-seats g c =
    let made = c.in_ok-seats.ensures {u = tt} in
    let was = c.in_ok-rested.was {u = tt} in
    let all : c.if-seated.all ≡ true = elim c.if-all.branch [ then-all w ↦ w.if-all.true | else-all w ↦ (let no = sym was ∙ w.performed-is in absurd (search rules)) ] in
    let seated : c.start_seats-handles.result.1 ≡ true = elim c.if-seated.branch [ then-seated w ↦ w.if-seated.true | else-seated w ↦ (let no = sym w.all-is ∙ all in absurd (search rules)) ] in
    seats_served c.args.max_cto (λ h. h.promise.0.value) (λ l. pair l.tool l.pump) c.start_seats-handles.result.0.items c.join_all-left.result.items c.in_ok-seats.seats.items c.args.crew.tools.items c.args.crew.pumps.items
    (c.start_seats-handles.ensures.seated seated) made.tools made.pumps made.limit c.join_all-left.ensures

pub returns-clause-tasks : goal.returns-clause-tasks
returns-clause-tasks g c =
    let was = c.in_ok-rested.was {u = tt} in
    elim c.if-all.branch [ then-all w ↦ subst (λ r. IfOk r (λ p. TasksServed g.N.Name.layout c.args.crew.hired.items (map (λ d. d.member) p.0.items))) (sym w.performed-is ∙ was) w.run_tasks-performed.ensures.served | else-all w ↦ (let no = sym was ∙ w.performed-is in absurd (search rules)) ]
