pub mod LeastLaws
pub mod LeastThere
pub mod TwoLeast
pub mod RingLeast
