-- What the master writes to the drives in phase 2, and what follows: their checks, and the time slots of the ring.
pub mod StartUp
pub mod Kept
pub mod Later
pub mod Own
pub mod Causes
pub mod Answers
pub mod Held
pub mod RingSlots
