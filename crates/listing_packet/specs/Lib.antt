pub mod Packets
pub mod PacketLaws
pub mod VerdictLineLaws
