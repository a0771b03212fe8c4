-- The words that the contracts of this crate use, each from where it is defined.
pub use Rattle.sercos_model.specs.Streams.{HasCause}
pub use Rattle.sercos_telegram.specs.declared.layout.Kind.{Kind}
pub use Rattle.sercos_text.specs.Given.{most_bytes, value_of}
pub use Rattle.sercos_text.specs.Tails.{addresses_in}
pub use Rattle.sercos_text.specs.Templates.{AreOf, bytes_by, is_template, items_of, numbers_in, signed_by, values_of}
pub use Rattle.sercos_text.specs.declared.tail.Tail.TheVariants.{Idents}
pub use Rattle.sercos_trace.specs.Kinds.{all_kinds, first_kind, kinds_fault, line_of, line_with, tail_for, template_of}
pub use Rattle.sercos_trace.specs.Lines.{AreWithin, HasOneKind, IsNumber, ReadsBack, bounds_of, line_by, line_in, telegram_kind, wish_by}
pub use Rattle.sercos_trace.specs.Marked.{NoFeed}
pub use Rattle.sercos_trace.specs.Texts.{address_at, big_endian, bound_text, chain_text, cycle_text, drive_text, end_text, ended_text, events_text, fall_text, fell_text, header_text, link_text, move_text, moves_text, order_text, outcome_text, plan_line, plan_text, raws, ring_text, sent_kind, sent_text, slot_text, slots_text, stop_text, stopped_text}
pub use Rattle.std.specs.Io.KnownBytes.{Appends}
pub use Rattle.std.specs.List.{All, flat_map}
pub use Rattle.std.specs.Result.{result_err, result_ok}
