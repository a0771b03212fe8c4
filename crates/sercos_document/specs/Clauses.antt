-- The words that the contracts of this crate use, each from where it is defined.
pub use Rattle.sercos_document.specs.Answers.{Gives, Refuses, Shows, demand}
pub use Rattle.sercos_document.specs.Lines.{line_of, path_line, range_line}
pub use Rattle.sercos_document.specs.Lists.{all_onto, counted, required_tables, short_list, tables, tables_onto}
pub use Rattle.sercos_document.specs.Paths.{before_keys, item_path, listed, path}
pub use Rattle.sercos_document.specs.Tables.{between, boolean_or, is_among, known, least_unknown, number, number_or, optional, required}
pub use Rattle.sercos_model.specs.Streams.{HasCause}
pub use Rattle.std.specs.Io.KnownBytes.{Appends}
pub use Rattle.std.specs.List.{find}
pub use Rattle.std.specs.List.Sorted.{IsStrictlySortedBy}
pub use Rattle.std.specs.Map.{keys_of}
pub use Rattle.std.specs.String.{string_cmp}
pub use Rattle.toml.specs.Data.{as_array, as_integer, as_str, as_table, get_member}
pub use Rattle.toml.specs.View.{array_view, items_view, table_view, view}
