-- The table that a value of `Keys` holds, as plain data.
use Rattle.toml.specs.View.{table_view}
use Rattle.sercos_document.specs.declared.keys.Keys.{Keys}
use Rattle.sercos_document.specs.Tables.{Located}

abbrev pub located : Keys → Located
located k = record { place = k.place; members = table_view k.table.now }
