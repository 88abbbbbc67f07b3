use Rattle.xcp_connection.proofs.attending.attend.Given as goal

abbrev pub ghosts-attend_named : goal.ghosts-attend_named
ghosts-attend_named g a = record { outlet = λ place. a.ends.2.outlet; before = λ place. g.O.Write.contents a.stream.1.inner; failures = λ place. a.stream.1.failures }
