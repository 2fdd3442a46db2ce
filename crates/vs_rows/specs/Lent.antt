-- A wrong field whose name is lent.
use Rattle.vs_rows.specs.declared.wrong.Wrong.{Wrong as Lent}
use Rattle.vs_rows.specs.declared.naming.BadName.{BadName as LentName}
use Rattle.vs_rows.specs.Fields.{Wrong}
use Rattle.vs_rows.specs.Naming.{BadName}

abbrev pub wrong_of : Lent → Wrong
wrong_of w = record { place = w.place; at = w.at; name = w.name.now; size = w.size }

abbrev pub bad_of : LentName → BadName
bad_of b = record { place = b.place; at = b.at; name = b.name.now; fault = b.fault }
