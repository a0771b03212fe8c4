-- The words that the contracts of this crate use, each from where it is defined.
pub use Rattle.sercos_idn.specs.Attributes.{attribute_of, attribute_word}
pub use Rattle.sercos_idn.specs.Codes.{attribute_fault, form_code, is_form, is_length, length_code}
pub use Rattle.sercos_idn.specs.Idns.{can_stand, digit_at, digits_fault, has_byte, head_fault, idn_fault, letter_of, spelled_number, spelled_raw}
pub use Rattle.sercos_idn.specs.Places.{IsRefusedAt}
pub use Rattle.sercos_idn.specs.declared.attribute.Attribute.{Attribute}
