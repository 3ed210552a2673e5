-- A curve by its tables.
use Rattle.curve.specs.declared.discount.Curve.{Curve}
use Rattle.curve.specs.declared.tables.Tables.{Tables}

abbrev pub tables_of : Curve → Tables
tables_of c = c.tables
