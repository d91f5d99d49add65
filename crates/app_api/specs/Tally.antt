-- What an application keeps of a connection before its first call.
use Rattle.app_api.specs.declared.app.Tally.{Tally}

-- eight zeros
abbrev pub zeros : Tally
zeros = record { t0 = 0; t1 = 0; t2 = 0; t3 = 0; t4 = 0; t5 = 0; t6 = 0; t7 = 0 }
