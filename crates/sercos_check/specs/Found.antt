-- What is looked up once for a telegram.
use Rattle.sercos_timing.specs.Views.{WishesView}
use Rattle.sercos_trace.specs.Views.{SentView}
use Rattle.sercos_check.specs.declared.drives.Found.{Found}
use Rattle.sercos_check.specs.Seen.{address_of, wish_for, is_drive, note_of}

abbrev pub found_for : WishesView → SentView → Found
found_for w s = record { is_drive = is_drive w (address_of s); wish = wish_for w (address_of s); note = note_of w s }
